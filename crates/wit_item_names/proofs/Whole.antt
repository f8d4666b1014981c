-- Items of a graph are named with a package that came to it.
use Rattle.std.proofs.Common.{◌≡◌, ℕ, List, [], ◌∷◌, ◌++◌, inl, inr, sym, subst, length}
use Rattle.wit_order.specs.Order.{Has}
use Rattle.wit_order.specs.Places.{Rows}
use Rattle.wit_types.specs.declared.interface.Interface.{Interface}
use Rattle.wit_types.specs.declared.interface.TypeDef.{TypeDef}
use Rattle.wit_types.specs.declared.world.World.{World}
use Rattle.wit_types.specs.declared.«package».Package.{Package}
use Rattle.wit_features.specs.Features.{FeatureSet}
use Rattle.wit_moves.specs.Moved.{Places}
use Rattle.wit_moves.specs.Plan.{OwnerPlaces}
use Rattle.wit_labels.specs.Passed.wit_plans-Checks.{Standing}
use Rattle.wit_labels.specs.Passed.wit_plans-declared-moves-MovedWorld.{MovedWorld}
use Rattle.wit_reach.specs.Ids.{function_ids}
use Rattle.wit_reach.specs.Types.{AreTypesBackward}
use Rattle.wit_labels.proofs.Passed.wit_arena-Lists.{get_kept}
use Rattle.wit_labels.specs.Passed.wit_copied_trees-There.{IncludedTypesAreBackward, IncludedSidesAreThere}
use Rattle.wit_labels.specs.Passed.wit_placed-There.{IsInterfaceThere}
use Rattle.wit_labels.proofs.Passed.wit_placed-Finding.{has_or}
use Rattle.wit_labels.proofs.Passed.wit_placed-Members.{has_at, has_get}
use Rattle.wit_graph_worlds.specs.Passed.wit_uses-Included.{BroughtTakesByUse}
use Rattle.wit_graph_worlds.specs.Passed.wit_uses-Moved.{MovedInterfacesTakeByUse, InterfacesStillTakeByUse, PlacedWorldsTakeByUse}
use Rattle.wit_graph_worlds.specs.Passed.wit_uses-Uses.{InterfacesTakeByUse}
use Rattle.wit_graph_worlds.proofs.Passed.wit_uses-Joining.{worlds_still}
use Rattle.wit_graph_worlds.specs.Uses.{AddedWorldsTakeByUse}
use Rattle.wit_graph_worlds.specs.Worlds.{Worlds, State, state}
use Rattle.wit_graph_worlds.proofs.Adding.{types_more}
use Rattle.wit_graph_worlds.proofs.Taking.{all_go}
use Rattle.wit_item_names.specs.Added.{Come, ArePlainWorlds, AddedWorldsArePlain}
use Rattle.wit_item_names.specs.Items.{AreItemsNamed, AreOwnItemsNamed}
use Rattle.wit_item_names.specs.Placed.{PlacedAreNamedApart, PlacedWorldsArePlain}
use Rattle.wit_item_names.specs.Pushed.{PushedAreUsedNamed}
use Rattle.wit_item_names.specs.Whole.{Comes, PushedItemsAreNamed}
use Rattle.wit_item_names.proofs.Plain.{plainly_more}

-- the laws on which it stands
pub record Laws : Type 0 where
  pub backward : IncludedTypesAreBackward
  pub sides_there : IncludedSidesAreThere
  pub brought_takes : BroughtTakesByUse
  pub interfaces_take : MovedInterfacesTakeByUse
  pub interfaces_still : InterfacesStillTakeByUse
  pub worlds_take : PlacedWorldsTakeByUse
  pub added_take : AddedWorldsTakeByUse
  pub apart : PlacedAreNamedApart
  pub used : PushedAreUsedNamed
  pub worlds_plain : PlacedWorldsArePlain
  pub added_plain : AddedWorldsArePlain

there_more : (types more : List TypeDef) (d : Interface) → IsInterfaceThere types d → IsInterfaceThere (types ++ more) d
there_more types more d there = record { names = types_more types more _ there.names; functions = λ f h. types_more types more (function_ids f) (there.functions f h) }

module _ (laws : Laws) (features : FeatureSet) (owners : OwnerPlaces) (s : Standing) (packages : List Package) (q : Package) (foreign own graph fs : List TypeDef) (others : Places) (own_interfaces new_interfaces interfaces : List Interface) (others_interfaces others_worlds : Places) (own_worlds : List World) (ms : List MovedWorld) (n : ℕ)
    (uses : Rows) (old : Worlds) (t : State) (c : Comes features owners s packages q foreign own graph fs others own_interfaces new_interfaces interfaces others_interfaces others_worlds own_worlds ms n uses old t)
    (named : AreItemsNamed packages graph interfaces old.listed) (own_named : AreOwnItemsNamed (length others_interfaces) (length others_worlds) (foreign ++ own) own_interfaces own_worlds)
  where
    graph_backward : AreTypesBackward graph
    graph_backward i j e = c.behind.backward i j (e.0, get_kept graph fs i e.0 e.1, e.2)

    come : Come n (interfaces ++ new_interfaces) uses (length packages) ms (state (graph ++ fs) old) t
    come = record {
      added = c.added;
      sound = c.sound;
      own = c.own_there;
      take = worlds_still graph fs old.listed graph_backward c.worlds_there named.taken.worlds_take;
      own_take = laws.worlds_take features owners s (length packages) foreign own graph fs others own_interfaces new_interfaces interfaces others_interfaces c.behind c.others_are c.holds others_worlds (length old.listed) own_worlds ms
          c.worlds_below c.worlds_stand c.worlds_moved c.worlds_kept own_named.worlds_take;
    }

    grown : (more : List TypeDef) × (t.types ≡ (graph ++ fs) ++ more)
    grown = (all_go laws.backward laws.sides_there laws.brought_takes n (interfaces ++ new_interfaces) uses (length packages) ms (state (graph ++ fs) old) t c.added c.sound c.own_there come.take come.own_take).grown

    all_there : (d : Interface) → Has (interfaces ++ new_interfaces) d → IsInterfaceThere (graph ++ fs) d
    all_there d h = elim (has_or interfaces new_interfaces d h) as (λ _. IsInterfaceThere (graph ++ fs) d) [ inl was ↦ there_more graph fs d (c.interfaces_are d was) | inr new ↦ c.new_are d new ]

    interfaces_take : InterfacesTakeByUse 0 t.types (interfaces ++ new_interfaces)
    interfaces_take =
        let first = laws.interfaces_take features owners s (length packages) foreign own graph fs others own_interfaces new_interfaces interfaces others_interfaces c.behind c.interfaces_kept c.others_are c.interfaces_are c.holds named.taken.interfaces_take own_named.interfaces_take in
        subst (λ (ts : List TypeDef). InterfacesTakeByUse 0 ts (interfaces ++ new_interfaces)) (sym grown.1) (laws.interfaces_still 0 (graph ++ fs) grown.0 (interfaces ++ new_interfaces) c.behind.backward all_there first)

    plain : ArePlainWorlds t.types t.worlds.listed
    plain =
        laws.added_plain n (interfaces ++ new_interfaces) uses (length packages) ms (state (graph ++ fs) old) t come c.owned (λ w h. (let at = has_at old.listed w h in plainly_more graph fs w.imports.entries (named.plain at.0 w at.1)))
        (laws.worlds_plain features owners s (length packages) foreign own graph fs others own_interfaces new_interfaces interfaces others_interfaces c.behind c.others_are c.holds (length others_worlds) own_worlds ms c.worlds_moved own_named.worlds_take own_named.plain own_named.renames)

    all_named : AreItemsNamed (packages ++ q ∷ []) t.types (interfaces ++ new_interfaces) t.worlds.listed
    all_named = record {
      taken = record {
        interfaces_take = interfaces_take;
        worlds_take = laws.added_take n (interfaces ++ new_interfaces) uses (length packages) ms (state (graph ++ fs) old) t c.added c.sound c.own_there come.take come.own_take;
      };
      apart = laws.apart features s packages q interfaces own_interfaces new_interfaces c.behind.interfaces_moved c.known c.is_new named.apart own_named.apart;
      used = laws.used features owners s packages q foreign own graph fs others own_interfaces new_interfaces interfaces others_interfaces c.behind c.others_are c.interfaces_stand c.holds c.interfaces_are c.new_are own_worlds ms c.worlds_moved c.worlds_kept n uses old t come
          c.worlds_there c.found_named named.used own_named.used;
      plain = λ i w at. plain w (has_get t.worlds.listed i w at);
    }

pub items_named : Laws → PushedItemsAreNamed
items_named laws features owners s packages q foreign own graph fs others own_interfaces new_interfaces interfaces others_interfaces others_worlds own_worlds ms n uses old t c named own_named =
    all_named laws features owners s packages q foreign own graph fs others own_interfaces new_interfaces interfaces others_interfaces others_worlds own_worlds ms n uses old t c named own_named
