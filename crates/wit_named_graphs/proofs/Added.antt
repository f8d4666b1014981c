-- The items of a graph are named with a package that was added to it.
use Rattle.std.proofs.Common.{◌≡◌, ℕ, List, [], ◌∷◌, ◌++◌, length, Some, inl, inr, refl, sym, ap, subst}
use Rattle.wit_types.specs.declared.docs.Docs.{Docs}
use Rattle.wit_types.specs.declared.interface.Interface.{Interface}
use Rattle.wit_types.specs.declared.interface.TypeDef.{TypeDef}
use Rattle.wit_types.specs.declared.«package».Package.{Package}
use Rattle.wit_types.specs.declared.«package».PackageName.{PackageName}
use Rattle.wit_features.specs.Features.{FeatureSet}
use Rattle.wit_moves.specs.Breaks.{AnyOf, IsKept}
use Rattle.wit_moves.specs.Moved.{Places, place_of}
use Rattle.wit_moves.specs.Plan.{OwnerPlaces}
use Rattle.wit_moved_trees.specs.There.{MovedTypesAreBackward}
use Rattle.wit_plans.specs.Checks.{InterfaceBreaks, WorldBreaks}
use Rattle.wit_plans.specs.Plans.{Parts, found_of, standing}
use Rattle.wit_placed.specs.Found.{FoundTypesAreThere}
use Rattle.wit_placed.specs.Order.{InterfacesTakePlaces, MovedTypesBelong, MovedInterfacesHoldTheirTypes}
use Rattle.wit_placed.specs.There.{IsInterfaceThere, IsOwnThere, MovedInterfacesAreThere, MovedWorldsAreThere}
use Rattle.wit_reach.specs.Holding.{AreNamedOwned}
use Rattle.wit_item_names.specs.Passed.wit_graph_worlds-Added.{AreAdded}
use Rattle.wit_item_names.specs.Passed.wit_graph_worlds-Sound.{AreSound}
use Rattle.wit_item_names.specs.Passed.wit_graph_worlds-Worlds.{state}
use Rattle.wit_item_names.specs.Items as items
use Rattle.wit_item_names.specs.Placed.{IsNewName}
use Rattle.wit_item_names.specs.Used.{IsNamed}
use Rattle.wit_item_names.specs.Whole.{Comes, PushedItemsAreNamed}
use Rattle.wit_graph.specs.Graph.{items_of, AreWhole}
use Rattle.wit_graph.specs.Push.{IsReady, IsAdded}
use Rattle.wit_graph.specs.declared.tables.Tables.{Tables}
use Rattle.wit_graph.proofs.Readying.{types_below, behind, moved_there, holds, sound, among}
use Rattle.wit_named_graphs.specs.Added.{AreNamed, IsOwnNamed, AddedItemsAreNamed}

module _ (pushed : PushedItemsAreNamed) (backward : MovedTypesAreBackward) (found : FoundTypesAreThere) (take_places : InterfacesTakePlaces) (belong : MovedTypesBelong) (hold : MovedInterfacesHoldTheirTypes) (are_there : MovedInterfacesAreThere) (worlds_there : MovedWorldsAreThere) where
  module _ (features : FeatureSet) (name : PackageName) (docs : Docs) (foreign owners : OwnerPlaces) (places : Places) (p : Parts) (old new : Tables) (whole : AreWhole old) (ready : IsReady features (items_of old) foreign p owners places) (a : IsAdded features name docs owners places p old new)
      (found_named : (i j : ℕ) → place_of foreign.interfaces i ≡ Some j → IsNamed old.packages old.interfaces.all j) (is_new : IsNewName old.packages a.q) where
    kept : IsKept (AnyOf (InterfaceBreaks features (standing owners places)) p.interfaces)
    kept at b = ready.planned.kept at (inl b)

    worlds_kept : IsKept (AnyOf (WorldBreaks features (standing owners places)) p.worlds)
    worlds_kept at b = ready.planned.kept at (inr b)

    comes : Comes features owners (standing owners places) old.packages a.q p.unknown p.types old.types a.parts.own_types.defs (found_of old.interfaces.all foreign p) p.interfaces a.parts.own_interfaces.moved old.interfaces.all foreign.interfaces foreign.worlds p.worlds
        a.parts.own_worlds.moved (length new.interfaces.uses) new.interfaces.uses old.worlds (state new.types new.worlds)
    comes =
        let owner = length old.packages in
        let t = items_of old in
        let types = a.parts.types in
        let ts = a.parts.own_types in
        let is = a.parts.own_interfaces in
        let ws = a.parts.own_worlds in
        record {
          behind = behind features owner t foreign p owners places ready types ts found backward new.interfaces a.interface_names is take_places belong hold are_there kept;
          interfaces_kept = kept;
          others_are = refl;
          interfaces_stand = refl;
          holds = ready.whole.holds;
          owned = subst AreNamedOwned ts.types_are (holds features owner t foreign p owners places ready types ts found backward new.interfaces a.interface_names is take_places belong hold are_there kept).named;
          interfaces_are = ready.whole.interfaces_are;
          new_are = λ d h. subst (λ (ds : List TypeDef). IsInterfaceThere ds d) ts.types_are (moved_there features owner t foreign p owners places ready types ts found backward new.interfaces a.interface_names is take_places belong hold are_there kept d h);
          worlds_below = ready.worlds_below;
          worlds_stand = ap (λ (o : OwnerPlaces). o.worlds) ready.planned.owners_are;
          worlds_moved = ws.are_moved;
          worlds_kept = worlds_kept;
          added =
              subst (λ (ds : List Interface). AreAdded ds new.interfaces.uses owner ws.moved (state (old.types ++ ts.defs) old.worlds) (state new.types new.worlds)) is.added.all_are
              (subst (λ (ds : List TypeDef). AreAdded new.interfaces.all new.interfaces.uses owner ws.moved (state ds old.worlds) (state new.types new.worlds)) ts.types_are ws.added);
          sound = subst (λ (ds : List TypeDef). AreSound (length new.interfaces.uses) ds old.worlds) ts.types_are (sound features owner t foreign p owners places ready types ts found backward new.interfaces a.interface_names is take_places belong hold are_there kept);
          own_there = λ m h. subst (λ (ds : List TypeDef). IsOwnThere ds (length new.interfaces.uses) m) ts.types_are
              (worlds_there features (standing owners places) types (length new.interfaces.uses) p.worlds ws.moved (types_below features owner t foreign p owners places ready types ts found backward)
              (among features owner t foreign p owners places ready types ts found backward new.interfaces a.interface_names is take_places belong hold are_there kept) worlds_kept ready.keys ws.are_moved m h);
          worlds_there = ready.whole.sound.there;
          found_named = found_named;
          known = whole.owners_are;
          is_new = is_new;
        }

    all_named : AreNamed old → IsOwnNamed foreign p → AreNamed new
    all_named named own =
        subst (λ (ps : List Package). items.AreItemsNamed ps new.types new.interfaces.all new.worlds.listed) (sym a.packages_are)
        (subst (λ (ds : List Interface). items.AreItemsNamed (old.packages ++ a.q ∷ []) new.types ds new.worlds.listed) (sym a.parts.own_interfaces.added.all_are)
        (pushed _ _ _ _ _ _ _ _ _ _ _ _ _ _ _ _ _ _ _ _ _ comes named own))

  pub added_named : AddedItemsAreNamed
  added_named features name docs foreign owners places p old new whole ready a found_named is_new named own = all_named features name docs foreign owners places p old new whole ready a found_named is_new named own
