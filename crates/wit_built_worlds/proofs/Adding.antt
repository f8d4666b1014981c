-- A world that goes behind the others.
use Rattle.std.proofs.Common.{◌≡◌, ℕ, List, [], ◌∷◌, ◌++◌, length}
use Rattle.wit_types.specs.declared.function.Function.{Function}
use Rattle.wit_types.specs.declared.interface.Interface.{Interface}
use Rattle.wit_types.specs.declared.interface.TypeDef.{TypeDef}
use Rattle.wit_types.specs.declared.interface.TypeOwner.TheVariants as belongs
use Rattle.wit_types.specs.declared.world.World.{World}
use Rattle.wit_scopes.specs.Scopes.{WorldScope}
use Rattle.wit_rules.specs.declared.fault.PackageFault.{PackageFault}
use Rattle.wit_rules.specs.Breaks.{IsKept, IsFaultOf}
use Rattle.wit_rules.proofs.Breaking.{widened}
use Rattle.wit_interfaces.specs.Passed.wit_orders-Needs.{types_of}
use Rattle.wit_interfaces.specs.Passed.wit_arena-Tree.{in_world}
use Rattle.wit_interfaces.specs.Passed.wit_arena-Table.{Entries}
use Rattle.wit_interfaces.specs.Passed.wit_package_types-Known.{KnownTypes}
use Rattle.wit_interfaces.specs.Passed.wit_resolved_scopes-Scope.{ResolvesScope}
use Rattle.wit_interfaces.specs.Passed.wit_resolved_scopes-InArena.{Context, IsScopeIn, GrowsFor, IsBuilt}
use Rattle.wit_interfaces.specs.Passed.wit_resolved_scopes-Texts.{labelled_texts, own_members}
use Rattle.wit_interfaces.proofs.Passed.wit_resolved_scopes-Listing.{extends_for}
use Rattle.wit_interfaces.proofs.Passed.wit_resolved_scopes-Placing.{resolved_scopes_are_in, scope_grown}
use Rattle.wit_interfaces.specs.Adding.{MembersBreak, MayBring}
use Rattle.wit_interfaces.specs.Labelled.{TextsBreak, MayAddTexts, AddsTexts}
use Rattle.wit_interfaces.proofs.Growing.{grows_for_through}
use Rattle.wit_worlds.specs.Paths.{PathsTree}
use Rattle.wit_worlds.specs.Making.{MakesWorld}
use Rattle.wit_worlds.proofs.Entries.{made_worlds_stand}
use Rattle.wit_built_worlds.specs.Adding.{WorldBreaks, by_own, by_labelled, MayAddWorld, AddsWorld}
use Rattle.wit_built_worlds.proofs.Declared.{own_declared, labelled_declared}
use Rattle.wit_built_worlds.proofs.Listing.{world_listed}

module _ (c : Context) (k : KnownTypes) (a : List TypeDef) (interfaces : List Interface) (worlds : List World) (ps : PathsTree) (w : WorldScope) (may : MayAddWorld c k a interfaces worlds ps w) where
  pub may_bring_own : MayBring c (in_world w.name.text) (belongs.World (length worlds)) k a (own_members w.members)
  may_bring_own = record { of_scope = record { owner = may.owner; declared = own_declared c.scopes w may.there }; built = may.built }

  module _ (b : List TypeDef) (table : Entries) (fs : List Function) (r : ResolvesScope k (belongs.World (length worlds)) a (types_of (own_members w.members)) (own_members w.members) b table fs) where
    own_in : GrowsFor c a b × IsBuilt c k b × IsScopeIn c (in_world w.name.text) (belongs.World (length worlds)) b (own_members w.members) table fs
    own_in = resolved_scopes_are_in c (in_world w.name.text) (belongs.World (length worlds)) k a b (own_members w.members) table fs may_bring_own.of_scope may.built r

    pub may_add_labelled : MayAddTexts c k b (length interfaces) (labelled_texts w)
    may_add_labelled = record { built = own_in.1; declared = labelled_declared c.scopes w may.there; owners = may.labelled }

    pub adds_world : (d : List TypeDef) (interfaces2 : List Interface) (ids : List ℕ) → AddsTexts c k b interfaces (labelled_texts w) d interfaces2 ids → (made : World) → MakesWorld ps w d table fs ids made → (worlds2 : List World) → worlds2 ≡ worlds ++ made ∷ []
        → AddsWorld c k a interfaces worlds w d interfaces2 worlds2
    adds_world d interfaces2 ids adds made makes worlds2 behind = record {
      grows = grows_for_through c a b d own_in.0 adds.grows;
      built = adds.built;
      labelled = adds.more;
      interfaces_behind = adds.behind;
      labelled_are = adds.are_in;
      made = made;
      behind = behind;
      is = made_worlds_stand c ps w d table fs ids (length worlds) made may.leads (scope_grown c b d adds.grows (extends_for c b d adds.grows) (in_world w.name.text) (belongs.World (length worlds)) (own_members w.members) table fs own_in.2) adds.ids_are makes;
      listed = world_listed c k a b d table fs interfaces interfaces2 adds.more adds.behind worlds worlds2 w may_bring_own r adds.grows adds.listed made behind ps ids makes;
    }

-- ---- what it breaks

module _ (c : Context) (w : WorldScope) where
  pub both_kept : IsKept (MembersBreak c (in_world w.name.text) (own_members w.members)) → IsKept (TextsBreak c (labelled_texts w)) → IsKept (WorldBreaks c w)
  both_kept own labelled rule at (by_own b) = own rule at b
  both_kept own labelled rule at (by_labelled b) = labelled rule at b

  pub own_breaks : (fault : PackageFault) → IsFaultOf (MembersBreak c (in_world w.name.text) (own_members w.members)) fault → IsFaultOf (WorldBreaks c w) fault
  own_breaks = widened (MembersBreak c (in_world w.name.text) (own_members w.members)) (WorldBreaks c w) (λ rule at b. by_own b)

  pub labelled_breaks : (fault : PackageFault) → IsFaultOf (TextsBreak c (labelled_texts w)) fault → IsFaultOf (WorldBreaks c w) fault
  labelled_breaks = widened (TextsBreak c (labelled_texts w)) (WorldBreaks c w) (λ rule at b. by_labelled b)
