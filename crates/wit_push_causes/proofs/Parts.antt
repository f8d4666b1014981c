-- Parts of a package that come to graphs that say the same, one by one.
use Rattle.std.proofs.Common.{◌≡◌, ℕ, List, ◌++◌, String, sym, ap, subst, ◌∙◌, map, length}
use Rattle.std.specs.declared.alloc.Global.{Global}
use Rattle.wit_words.specs.declared.source_map.Span.{Span}
use Rattle.wit_types.specs.declared.interface.Interface.{Interface}
use Rattle.wit_types.specs.declared.interface.TypeDef.{TypeDef}
use Rattle.wit_types.specs.declared.world.World.{World}
use Rattle.wit_features.specs.Features.{FeatureSet}
use Rattle.wit_moves.specs.Breaks.{AnyOf}
use Rattle.wit_moves.specs.Moved.{Places}
use Rattle.wit_moves.specs.Plan.{OwnerPlaces}
use Rattle.wit_plans.specs.Checks.{Standing}
use Rattle.wit_resources.specs.Natures.{natures}
use Rattle.wit_resources.specs.declared.natures.Nature.{Nature}
use Rattle.wit_shapes.specs.Shapes.{TypeBreaks}
use Rattle.wit_groups.specs.Passed.wit_graph_worlds-Worlds.{Worlds, state}
use Rattle.wit_groups.specs.Passed.wit_graph_worlds-declared-worlds-WorldFault.{WorldFault}
use Rattle.wit_groups.specs.Passed.wit_graph_worlds-declared-worlds-WorldFault-TheVariants.{OutOfMemory}
use Rattle.wit_groups.specs.Passed.wit_graph_parts-Interfaces.{Interfaces}
use Rattle.wit_groups.specs.Passed.wit_graph_parts-Parts.{AreTypesAdded, TypesBreak, InterfaceBreaks, AreInterfacesAdded, InterfacesBreak, WorldBreaks, AreWorldsAdded, WorldsBreak, AreWorldsRefused}
use Rattle.wit_push_causes.specs.Graphs.{AreSameRows}
use Rattle.wit_push_causes.specs.Said.{names_said, type_said, interface_said, world_said}
use Rattle.wit_push_causes.proofs.Lists.{same_append, same_size}
use Rattle.wit_push_causes.proofs.Moving.{defs_same, interfaces_same, worlds_same, moved_world_said}
use Rattle.wit_push_causes.proofs.Adding as adding
use Rattle.wit_push_causes.proofs.Adding.{added_same, none_refused}
use Rattle.wit_push_causes.proofs.Rows.{rows_append, rows_made, rows_use}
use Rattle.wit_push_causes.proofs.Shapes.{natures_same, types_break, interfaces_break, worlds_break}
use Rattle.wit_push_causes.proofs.Tables.{interface_names_same, world_names_same}

-- ---- types

module _ (owners : OwnerPlaces) (places : Places) (first : ℕ) (own was were : List TypeDef) (same : map type_said was ≡ map type_said were) where
  pub types_same : (new other : List TypeDef) → AreTypesAdded owners places first own was new → AreTypesAdded owners places first own were other → map type_said new ≡ map type_said other
  types_same new other a b =
      ap (map type_said) a.types_are
      ∙ same_append type_said was a.defs were b.defs same (defs_same owners places first own a.defs b.defs a.are_moved b.are_moved)
      ∙ sym (ap (map type_said) b.types_are)

  pub no_types_break : (new : List TypeDef) (at : Span) → AreTypesAdded owners places first own was new → TypesBreak owners places first own were at → ⊥
  no_types_break new at a b =
      let defs : map type_said b.defs ≡ map type_said a.defs = defs_same owners places first own b.defs a.defs b.are_moved a.are_moved in
      let known : natures (were ++ b.defs) ≡ natures new = natures_same (were ++ b.defs) (was ++ a.defs) (same_append type_said were b.defs was a.defs (sym same) defs) ∙ ap natures (sym a.types_are) in
      a.shapes at (subst (λ (ns : List Nature). AnyOf (TypeBreaks ns) a.defs at) known (types_break (natures (were ++ b.defs)) at b.defs a.defs defs b.breaks))

-- ---- interfaces

pub record AreAlike (a b : Interfaces) : Type 0 where
  pub all : map interface_said a.all ≡ map interface_said b.all
  pub uses : AreSameRows a.uses b.uses

module _ (features : FeatureSet) (s : Standing) (owner : ℕ) (ds es : List TypeDef) (types : map type_said ds ≡ map type_said es) (own : List Interface) where
  pub interfaces_alike : (was were new other : Interfaces) (names more : List (String Global × ℕ)) → AreAlike was were → AreInterfacesAdded features s owner ds own was new names → AreInterfacesAdded features s owner es own were other more
      → AreAlike new other × (names_said names ≡ names_said more)
  interfaces_alike was were new other names more same a b =
      let moved : map interface_said a.moved ≡ map interface_said b.moved = interfaces_same features s owner own a.moved b.moved a.are_moved b.are_moved in
      let rows : AreSameRows (was.uses ++ a.added.rows) (were.uses ++ b.added.rows) =
      rows_append was.uses were.uses a.added.rows b.added.rows same.uses (rows_made ds es types a.moved b.moved a.added.rows b.added.rows moved a.added.are_rows b.added.are_rows) in (
        record {
          all = ap (map interface_said) a.added.all_are ∙ same_append interface_said was.all a.moved were.all b.moved same.all moved ∙ sym (ap (map interface_said) b.added.all_are);
          uses = rw (a.added.uses_are, b.added.uses_are) rows;
        },
        interface_names_same (length was.all) (length were.all) a.moved b.moved names more (same_size interface_said was.all were.all same.all) moved a.named b.named,
      )

  pub no_interfaces_break : (was new : Interfaces) (names : List (String Global × ℕ)) (at : Span) → AreInterfacesAdded features s owner ds own was new names → InterfacesBreak features s owner (natures es) own at → ⊥
  no_interfaces_break was new names at a b =
      let moved : map interface_said b.moved ≡ map interface_said a.moved = interfaces_same features s owner own b.moved a.moved b.are_moved a.are_moved in
      a.shapes at (subst (λ (ns : List Nature). AnyOf (InterfaceBreaks ns) a.moved at) (sym (natures_same ds es types)) (interfaces_break (natures es) at b.moved a.moved moved b.breaks))

-- ---- worlds

module _ (features : FeatureSet) (s : Standing) (owner : ℕ) (is js : Interfaces) (interfaces : AreAlike is js) (own : List World) (ds es : List TypeDef) (types : map type_said ds ≡ map type_said es) (was were : Worlds)
    (listed : map world_said was.listed ≡ map world_said were.listed) (elaborated : map world_said was.elaborated ≡ map world_said were.elaborated) where
  begins : adding.AreAlike (state ds was) (state es were)
  begins = record { types = types; listed = listed; elaborated = elaborated }

  pub worlds_alike : (xs ys : List TypeDef) (new other : Worlds) (names more : List (String Global × ℕ)) → AreWorldsAdded features s owner is own ds xs was new names → AreWorldsAdded features s owner js own es ys were other more
      → adding.AreAlike (state xs new) (state ys other) × (names_said names ≡ names_said more)
  worlds_alike xs ys new other names more a b =
      let moved : map moved_world_said a.moved ≡ map moved_world_said b.moved = worlds_same features s own a.moved b.moved a.are_moved b.are_moved in (
        added_same is.all js.all interfaces.all is.uses js.uses (rows_use is.uses js.uses interfaces.uses) owner a.moved b.moved (state ds was) (state es were) (state xs new) (state ys other) moved begins a.added b.added,
        world_names_same (length was.listed) (length were.listed) a.moved b.moved names more (same_size world_said was.listed were.listed listed) moved a.named b.named,
      )

  module _ (xs : List TypeDef) (new : Worlds) (names : List (String Global × ℕ)) (a : AreWorldsAdded features s owner is own ds xs was new names) where
    pub no_worlds_break : (at : Span) → WorldsBreak features s (natures es) own at → ⊥
    no_worlds_break at b =
        let moved : map moved_world_said b.moved ≡ map moved_world_said a.moved = worlds_same features s own b.moved a.moved b.are_moved a.are_moved in
        a.shapes at (subst (λ (ns : List Nature). AnyOf (WorldBreaks ns) a.moved at) (sym (natures_same ds es types)) (worlds_break (natures es) at b.moved a.moved moved b.breaks))

    pub no_worlds_refused : (fault : WorldFault) → AreWorldsRefused features s owner js own es were fault → fault ≡ OutOfMemory
    no_worlds_refused fault (moved, are, cause) =
        none_refused is.all js.all interfaces.all is.uses js.uses (rows_use is.uses js.uses interfaces.uses) owner a.moved moved (state ds was) (state es were) (state xs new) fault
        (worlds_same features s own a.moved moved a.are_moved are) begins a.added cause
