-- Types of worlds' texts that have places in a graph stay by their gates, and so worlds that came mean what their texts do.
use Rattle.std.proofs.Common.{◌≡◌, ◌<◌, ℕ, ◌+◌, Bool, true, List, ◌++◌, length, Option, Some, None, is_some, inl, inr, refl, sym, subst, ap, ◌∙◌, arith}
use Rattle.std.proofs.lemmas.Bool.{and_parts}
use Rattle.std.proofs.lemmas.List.{length-map, length-take-le, take-append-drop}
use Rattle.std.proofs.lemmas.Option.{same_Some, slice_get_within, slice_get-map}
use Rattle.std.specs.Prelude.{option_map, slice_get, string_bytes}
use Rattle.wit_types.specs.declared.interface.TypeDef.{TypeDef}
use Rattle.wit_types.specs.declared.interface.TypeOwner.{TypeOwner}
use Rattle.wit_types.specs.declared.interface.TypeOwner.TheVariants as belongs
use Rattle.wit_types.specs.declared.stability.Stability.{Stability}
use Rattle.wit_types.specs.declared.«package».PackageName.{PackageName}
use Rattle.wit_types.specs.declared.«package».UnresolvedPackage.{UnresolvedPackage}
use Rattle.wit_features.specs.Features.{FeatureSet, stays}
use Rattle.wit_scopes.specs.Members.{MemberTree}
use Rattle.wit_arena.specs.Tree.{Name, Owner, Tree}
use Rattle.wit_arena.specs.Unfold.{Owners, nameless_tree, def_tree_of, trees, IsWhole}
use Rattle.wit_arena.proofs.Lists.{get_kept}
use Rattle.wit_arena.proofs.Unfolding.{def_at}
use Rattle.wit_package_types.specs.Stability.{IsStabilityOf}
use Rattle.wit_finding.specs.Types.{type_in, interface_of, type_found}
use Rattle.wit_moves.specs.Moved.{Places, flat, place_of, to}
use Rattle.wit_moves.specs.Plan.{is_owner_placed, moved_owner, AreMovedDefs}
use Rattle.wit_moved_trees.specs.Law.{MovedFunctionsStandForTheSame}
use Rattle.wit_graph.specs.Passed.wit_placed-Order.{AreNamelessFree}
use Rattle.wit_graph.proofs.Passed.wit_placed-Sources.{all_sources}
use Rattle.wit_plans.specs.Plans.{Parts, found_of}
use Rattle.wit_graph.specs.Passed.wit_graph_parts-Own.{asked_types, own_parts}
use Rattle.wit_graph.specs.Graph.{Graph, items_of, sizes}
use Rattle.wit_graph.specs.Push.{IsPushed}
use Rattle.wit_pushed_trees.specs.Pushed.{PushedTypesStandForTheSame, PushedWorldsMeanTheirTexts}
use Rattle.wit_pushed_trees.specs.Staying.{IsOwnType}
use Rattle.wit_pushed_trees.specs.Worlds.{IsTypeWritten}
use Rattle.wit_pushed_trees.proofs.Graphs.{WrittenGo, worlds_go_at}
use Rattle.wit_pushed_trees.proofs.Owning.{dropped}
use Rattle.wit_pushed_trees.proofs.Staying.{some_name, type_is_placed}
use Rattle.wit_pushed_trees.proofs.Types.{added_grow}

-- with more types behind, it is
pub written_more : (kept : Stability → Bool) (a more : List TypeDef) (ms : List MemberTree) (x : Name) (i : ℕ) → IsTypeWritten kept a ms x i → IsTypeWritten kept (a ++ more) ms x i
written_more kept a more ms x i w = record {
  member = w.member;
  written = w.written;
  spelled_as = w.spelled_as;
  def = w.def;
  there = get_kept a more i w.def w.there;
  named = w.named;
  world = w.world;
  owner = w.owner;
  gates = w.gates;
}

-- a type without a name belongs nowhere, where each stands for something
free : (owners : Owners) (given : Owner → Name → Tree) (a : List TypeDef) → IsWhole owners given a → (i : ℕ) (d : TypeDef) → slice_get a i ≡ Some d → d.name ≡ None → d.owner ≡ belongs.None
free owners given a whole i d at none = (let t = def_at owners given a i d whole at in by d.owner t.0 (sym (ap (λ (n : Option _). def_tree_of owners given (trees owners given a) n d.owner d.kind) none) ∙ t.2))
  where
    by : (o : TypeOwner) (t : Tree) → nameless_tree (trees owners given a) o d.kind ≡ Some t → o ≡ belongs.None
    by belongs.None t e = refl
    by (belongs.World w) t e = absurd (let bad : None ≡ Some t = e in cc)
    by (belongs.Interface j) t e = absurd (let bad : None ≡ Some t = e in cc)

module _ (eq : PackageName → PackageName → Bool) (features : FeatureSet) (old : Graph) (p : UnresolvedPackage) (new : Graph) (id : ℕ) (h : IsPushed eq features old p new id) (owners : Owners) (given : Owner → Name → Tree) (whole : IsWhole owners given p.types) where
  abbrev parts : Parts
  parts = own_parts p

  abbrev find : TypeDef → Option ℕ
  find = type_found old.tables.interfaces.all h.foreign.interfaces

  abbrev others : Places
  others = found_of old.tables.interfaces.all h.foreign parts

  abbrev defs : List TypeDef
  defs = h.put.added.parts.own_types.defs

  own_at : (k : ℕ) (d : TypeDef) → slice_get parts.types k ≡ Some d → slice_get p.types (asked_types p + k) ≡ Some d
  own_at k d at = sym (dropped (asked_types p) p.types k) ∙ at

  nameless : AreNamelessFree parts.types
  nameless k d at none = free owners given p.types whole (asked_types p + k) d (own_at k d at) none

  -- a type that is asked of another package belongs to no world
  not_asked : (i j w : ℕ) (d : TypeDef) → slice_get p.types i ≡ Some d → d.owner ≡ belongs.World w → place_of others i ≡ Some j → ⊥
  not_asked i j w d at owner found = by (slice_get parts.unknown i) refl (ap flat (sym (slice_get-map find parts.unknown i)) ∙ found)
    where
      by : (o : Option TypeDef) → slice_get parts.unknown i ≡ o → flat (option_map find o) ≡ Some j → ⊥
      by None e there = absurd (let bad : None ≡ Some j = there in cc)
      by (Some u) e there =
          let first : slice_get p.types i ≡ Some u = subst (λ (ts : List TypeDef). slice_get ts i ≡ Some u) (take-append-drop (asked_types p) p.types) (get_kept parts.unknown parts.types i u e) in
          let world : u.owner ≡ belongs.World w = ap (λ (z : TypeDef). z.owner) (same_Some u d (sym first ∙ at)) ∙ owner in
          absurd (let bad : None ≡ Some j = sym (ap (λ (o : TypeOwner). type_in (interface_of old.tables.interfaces.all h.foreign.interfaces o) u.name) world) ∙ there in cc)

  sized : length others ≡ length parts.unknown
  sized = length-map parts.unknown find

  -- of the package's own, it goes where it stands
  pub written_goes : WrittenGo features h.places p.types (old.tables.types ++ defs)
  written_goes ms x i j at w =
      let s = all_sources features h.owners others h.places old.tables.types parts.types nameless h.are_places.planned.types_are defs (subst (λ (n : ℕ). AreMovedDefs h.owners h.places n parts.types defs) (sym sized) h.put.added.parts.own_types.are_moved) in
      elim (s.sources i j at) as (λ _. IsTypeWritten (stays features) (old.tables.types ++ defs) ms x j) [
        | inl other ↦ absurd (not_asked i j w.world w.def w.there w.owner other)
        | inr from ↦
            let there : slice_get p.types (asked_types p + from.place) ≡ Some from.old = own_at from.place from.old from.was in
            let within : asked_types p + from.place < length p.types = slice_get_within p.types (asked_types p + from.place) from.old there in
            let first : length others ≡ asked_types p = sized ∙ length-take-le (asked_types p) p.types (omega (arith, within)) in
            let number : i ≡ asked_types p + from.place = from.index ∙ ap (λ (n : ℕ). n + from.place) first in
            let same : from.old ≡ w.def = same_Some from.old w.def (sym there ∙ ap (slice_get p.types) (sym number) ∙ w.there) in
            let name = some_name w.def.name x w.named in
            let own : IsOwnType p (belongs.World w.world) w.member i = record {
              place = from.place;
              place_is = number;
              def = w.def;
              there = from.was ∙ ap (λ (d : TypeDef). Some d) same;
              own_name = name.0;
              named = name.1;
              owner = w.owner;
              gates = w.gates.0;
            } in
            let placed = sym (type_is_placed features old.tables.interfaces.all (sizes (items_of old.tables)) h.foreign h.owners p h.places h.are_places.planned (belongs.World w.world) w.member i own) ∙ ap (λ (o : Option ℕ). is_some o) at in
            let stay : stays features w.def.stability ≡ true = (and_parts (stays features w.def.stability) (is_owner_placed h.owners w.def.owner) placed).0 in
            let stability : from.new.stability ≡ w.def.stability = from.moved.stability ∙ ap (λ (d : TypeDef). d.stability) same in
            record {
              member = w.member;
              written = w.written;
              spelled_as = w.spelled_as;
              def = from.new;
              there = from.is;
              named = ap (option_map string_bytes) (from.moved.name ∙ ap (λ (d : TypeDef). d.name) same) ∙ w.named;
              world = to h.owners.worlds w.world;
              owner = from.moved.owner_is ∙ ap (moved_owner h.owners) (ap (λ (d : TypeDef). d.owner) same ∙ w.owner);
              gates = (subst (IsStabilityOf w.member.attributes) (sym stability) w.gates.0, subst (λ (q : Stability). stays features q ≡ true) (sym stability) stay);
            }
      ]

  -- and stays with what comes behind
  written_goes_then : WrittenGo features h.places p.types new.tables.types
  written_goes_then ms x i j at w =
      let a = h.put.added.parts in
      let more = added_grow _ _ _ _ _ _ a.own_worlds.added in
      subst (λ (b : List TypeDef). IsTypeWritten (stays features) b ms x j) (sym (more.1 ∙ ap (λ (b : List TypeDef). b ++ more.0) a.own_types.types_are))
      (written_more (stays features) (old.tables.types ++ defs) more.0 ms x j (written_goes ms x i j at w))

pub worlds_go : PushedTypesStandForTheSame → MovedFunctionsStandForTheSame → PushedWorldsMeanTheirTexts
worlds_go typed functions_stand given c interfaces worlds graph_owners eq features old p new id package_is h agreed k m at =
    worlds_go_at functions_stand given c interfaces worlds graph_owners eq features old p new id package_is h agreed new.tables.types (typed given c.owners graph_owners eq features old p new id h (package_is.whole given) agreed)
    (written_goes_then eq features old p new id h c.owners given (package_is.whole given)) k m at
