-- What holds of a graph behind which a package is put.
use Rattle.std.proofs.Common.{◌≡◌, ℕ, ◌+◌, List, [], ◌∷◌, ◌++◌, inl, inr, String, refl, sym, subst, ap, ◌∙◌, arith, length, length-append, map}
use Rattle.std.specs.declared.alloc.Global.{Global}
use Rattle.wit_order.specs.Order.{Has}
use Rattle.wit_order.specs.Places.{Rows}
use Rattle.wit_types.specs.declared.interface.Interface.{Interface}
use Rattle.wit_types.specs.declared.interface.TypeDef.{TypeDef}
use Rattle.wit_features.specs.Features.{FeatureSet}
use Rattle.wit_moves.specs.Breaks.{AnyOf, IsKept}
use Rattle.wit_moves.specs.Moved.{Places}
use Rattle.wit_moves.specs.Plan.{OwnerPlaces, AreMovedDefs}
use Rattle.wit_graph_parts.specs.Passed.wit_moved_trees-There.{AreWithin, MovedTypesAreBackward}
use Rattle.wit_reach.specs.Holding.{AreNamedOwned, AreListed, HoldTheirTypes}
use Rattle.wit_reach.specs.Lists.{AreOwnersThere}
use Rattle.wit_reach.proofs.Holding.{held_in_order, held_more}
use Rattle.wit_graph_parts.proofs.Passed.wit_placed-Holding.{functions_there}
use Rattle.wit_reach.specs.Paths.{AreBackward}
use Rattle.wit_reach.specs.Reach.{Uses}
use Rattle.wit_reach.specs.Types.{AreTypesBackward, AreSidesThere}
use Rattle.wit_plans.specs.Plans.{Parts, found_of, standing}
use Rattle.wit_plans.specs.Checks.{InterfaceBreaks}
use Rattle.wit_graph_parts.specs.Passed.wit_placed-Found.{FoundTypesAreThere}
use Rattle.wit_graph_parts.specs.Passed.wit_placed-Order.{AreInOrder, AreBehind, AreNamelessFree, InterfacesTakePlaces, MovedTypesBelong, MovedInterfacesHoldTheirTypes, MovedNamelessAreFree}
use Rattle.wit_graph_parts.specs.Passed.wit_placed-Listed.{MovedTypesAreListed}
use Rattle.wit_graph_parts.specs.Passed.wit_placed-Naming.{HasNamesApart, HaveNamesApart, MovedInterfacesHaveNamesApart}
use Rattle.wit_graph_parts.specs.Passed.wit_placed-There.{AreBelow, IsInterfaceThere, MovedInterfacesAreThere}
use Rattle.wit_elaborated.specs.Staying.{ElaboratedWorldsStay}
use Rattle.wit_graph_parts.specs.Passed.wit_graph_worlds-Sound.{AreSound, AreElaborated}
use Rattle.wit_graph_parts.proofs.Passed.wit_graph_worlds-Whole.{elaborated_stay}
use Rattle.wit_graph_parts.specs.Passed.wit_graph_worlds-Worlds.{Worlds}
use Rattle.wit_graph_parts.specs.Passed.wit_resources-Natures.{natures}
use Rattle.wit_graph_parts.specs.Passed.wit_resources-declared-natures-Nature.{Nature}
use Rattle.wit_graph_parts.specs.Interfaces.{Interfaces, AreRows}
use Rattle.wit_graph.specs.Graph.{Items, items, AreItemsWhole}
use Rattle.wit_graph_parts.specs.Parts.{AreTypesAdded, AreInterfacesAdded}
use Rattle.wit_graph.specs.Push.{IsReady}
use Rattle.wit_graph_parts.proofs.Rows.{rows_append}
use Rattle.wit_graph.proofs.Keeping.{has_or, interface_kept, sides_kept, among_more, rows_kept, rows_long, uses_backward}

map_long : {X Y : Type 0} (f : X → Y) (xs : List X) → length (map f xs) ≡ length xs
map_long f [] = refl
map_long f (x ∷ xs) = (let e = map_long f xs in omega (arith, e))

module _ (features : FeatureSet) (owner : ℕ) (t : Items) (foreign : OwnerPlaces) (p : Parts) (owners : OwnerPlaces) (places : Places) (r : IsReady features t foreign p owners places) (types : List TypeDef)
    (a : AreTypesAdded owners places (length p.unknown) p.types t.types types) (found : FoundTypesAreThere) (backward : MovedTypesAreBackward)
  where
    abbrev pub others : Places
    others = found_of t.interfaces.all foreign p

    others_long : length others ≡ length p.unknown
    others_long = map_long _ p.unknown

    others_within : AreWithin t.types others
    others_within = found t.interfaces.all foreign.interfaces t.types p.unknown (λ d h. (r.whole.interfaces_are d h).names)

    defs_moved : AreMovedDefs owners places (length others) p.types a.defs
    defs_moved = subst (λ (n : ℕ). AreMovedDefs owners places n p.types a.defs) (sym others_long) a.are_moved

    there : AreTypesBackward (t.types ++ a.defs) × AreWithin (t.types ++ a.defs) places
    there = backward features owners others places t.types p.types a.defs r.whole.sound.backward others_within r.planned.types_are defs_moved

    pub types_backward : AreTypesBackward types
    types_backward = subst AreTypesBackward (sym a.types_are) there.0

    nameless : MovedNamelessAreFree → AreNamelessFree types
    nameless moved_free = subst AreNamelessFree (sym a.types_are) (moved_free owners places (length others) p.types t.types a.defs defs_moved r.nameless r.whole.nameless)

    pub types_below : AreBelow (length types) places
    types_below = subst (λ (ds : List TypeDef). AreWithin ds places) (sym a.types_are) there.1

    module _ (i : Interfaces) (names : List (String Global × ℕ)) (b : AreInterfacesAdded features (standing owners places) owner types p.interfaces t.interfaces i names)
        (take_places : InterfacesTakePlaces) (belong : MovedTypesBelong) (hold : MovedInterfacesHoldTheirTypes) (are_there : MovedInterfacesAreThere)
        (kept : IsKept (AnyOf (InterfaceBreaks features (standing owners places)) p.interfaces))
      where
        pub behind : AreBehind features owners (standing owners places) owner p.unknown p.types t.types a.defs others p.interfaces b.moved foreign.interfaces (length t.interfaces.all)
        behind = record {
          so_many = others_long;
          others_within = others_within;
          placed = r.planned.types_are;
          are_moved = defs_moved;
          below = r.interfaces_below;
          places = ap (λ (o : OwnerPlaces). o.interfaces) r.planned.owners_are;
          interfaces_moved = b.are_moved;
          backward = there.0;
          graph_owners = r.whole.sound.owners;
          nameless = r.nameless;
        }

        all_long : length i.all ≡ length t.interfaces.all + length b.moved
        all_long = ap (λ (ds : List Interface). length ds) b.added.all_are ∙ length-append t.interfaces.all b.moved

        pub moved_there : (d : Interface) → Has b.moved d → IsInterfaceThere types d
        moved_there d h = are_there features (standing owners places) owner types p.interfaces b.moved types_below kept b.are_moved d h

        was_there : (d : Interface) → Has t.interfaces.all d → IsInterfaceThere types d
        was_there d h = subst (λ (ds : List TypeDef). IsInterfaceThere ds d) (sym a.types_are) (interface_kept t.types a.defs d (r.whole.interfaces_are d h))

        pub interfaces_are : (d : Interface) → Has i.all d → IsInterfaceThere types d
        interfaces_are d h =
            elim (has_or t.interfaces.all b.moved d (subst (λ (ds : List Interface). Has ds d) b.added.all_are h)) as (λ _. IsInterfaceThere types d) [ inl was ↦ was_there d was | inr new ↦ moved_there d new ]

        pub rows : AreRows types i.all i.uses
        rows =
            subst (λ (ds : List Interface). AreRows types ds i.uses) (sym b.added.all_are)
            (subst (AreRows types (t.interfaces.all ++ b.moved)) (sym b.added.uses_are)
            (rows_append types t.interfaces.all b.moved t.interfaces.uses b.added.rows
            (subst (λ (ds : List TypeDef). AreRows ds t.interfaces.all t.interfaces.uses) (sym a.types_are) (rows_kept t.types a.defs r.whole.sound.backward t.interfaces.all t.interfaces.uses r.whole.interfaces_are r.whole.rows)) b.added.are_rows))

        pub holds : HoldTheirTypes 0 types i.all
        holds =
            subst (HoldTheirTypes 0 types) (sym b.added.all_are)
            (subst (λ (ds : List TypeDef). HoldTheirTypes 0 ds (t.interfaces.all ++ b.moved)) (sym a.types_are)
            (hold features owners (standing owners places) owner p.unknown p.types t.types a.defs others p.interfaces b.moved t.interfaces.all foreign.interfaces behind kept refl r.whole.interfaces_are r.whole.holds r.holds))

        listed : MovedTypesAreListed → AreListed 0 types i.all
        listed stand =
            subst (AreListed 0 types) (sym b.added.all_are)
            (subst (λ (ds : List TypeDef). AreListed 0 ds (t.interfaces.all ++ b.moved)) (sym a.types_are)
            (stand features owners (standing owners places) owner p.unknown p.types t.types a.defs others p.interfaces b.moved t.interfaces.all foreign.interfaces behind r.whole.listed r.owned r.listed))

        names_are : MovedInterfacesHaveNamesApart → HaveNamesApart i.all
        names_are apart d h =
            elim (has_or t.interfaces.all b.moved d (subst (λ (ds : List Interface). Has ds d) b.added.all_are h)) as (λ _. HasNamesApart d) [
              | inl was ↦ r.whole.names d was
              | inr new ↦ apart features (standing owners places) owner p.interfaces b.moved b.are_moved r.names d new
            ]

        order : AreInOrder 0 types i.all
        order = held_in_order 0 types i.all holds

        pub uses_long : length i.uses ≡ length i.all
        uses_long = rows_long types i.all i.uses rows

        pub backward_uses : AreBackward (Uses i.uses)
        backward_uses = uses_backward types i.all i.uses rows order

        pub among : AreBelow (length i.uses) owners.interfaces
        among =
            subst (λ (n : ℕ). AreBelow n owners.interfaces) (sym (uses_long ∙ all_long))
            (subst (AreBelow (length t.interfaces.all + length b.moved)) (sym (ap (λ (o : OwnerPlaces). o.interfaces) r.planned.owners_are))
            (take_places features (standing owners places) owner foreign.interfaces (length t.interfaces.all) p.interfaces b.moved r.interfaces_below b.are_moved))

        pub sound : AreSound (length i.uses) types t.worlds
        sound =
            subst (λ (n : ℕ). AreSound n types t.worlds) (sym (uses_long ∙ all_long)) (record {
              backward = types_backward;
              owners =
                  subst (AreOwnersThere (length t.interfaces.all + length b.moved)) (sym a.types_are)
                  (belong features owners (standing owners places) owner p.unknown p.types t.types a.defs others p.interfaces b.moved foreign.interfaces (length t.interfaces.all) behind);
              there = λ w h. subst (λ (ds : List TypeDef). AreSidesThere ds w) (sym a.types_are) (sides_kept t.types a.defs w (r.whole.sound.there w h));
              interfaces = λ w h. among_more (length t.interfaces.all) (length b.moved) w (r.whole.sound.interfaces w h);
              keys = r.whole.sound.keys;
              so_many = r.whole.sound.so_many;
            })

        -- worlds import what they did
        pub elaborated : ElaboratedWorldsStay → AreElaborated types i.all i.uses t.worlds
        elaborated stay =
            let long : length t.interfaces.uses ≡ length t.interfaces.all = rows_long t.types t.interfaces.all t.interfaces.uses r.whole.rows in
            let were : AreSound (length t.interfaces.uses) t.types t.worlds = subst (λ (n : ℕ). AreSound n t.types t.worlds) (sym long) r.whole.sound in
            let more : AreElaborated (t.types ++ a.defs) (t.interfaces.all ++ b.moved) (t.interfaces.uses ++ b.added.rows) t.worlds =
            elaborated_stay stay t.types a.defs t.interfaces.all b.moved t.interfaces.uses b.added.rows t.worlds were (uses_backward t.types t.interfaces.all t.interfaces.uses r.whole.rows (held_in_order 0 t.types t.interfaces.all r.whole.holds)) long r.whole.elaborated
            in
            subst (λ (ds : List TypeDef). AreElaborated ds i.all i.uses t.worlds) (sym a.types_are)
            (subst (λ (is : List Interface). AreElaborated (t.types ++ a.defs) is i.uses t.worlds) (sym b.added.all_are)
            (subst (λ (rs : Rows). AreElaborated (t.types ++ a.defs) (t.interfaces.all ++ b.moved) rs t.worlds) (sym b.added.uses_are) more))

        -- with more types, and worlds
        pub whole : (more : List TypeDef) (ds : List TypeDef) (ns : List Nature) (w : Worlds) → ds ≡ types ++ more → ns ≡ natures ds → AreSound (length i.uses) ds w → AreElaborated ds i.all i.uses w → (AreNamedOwned types → AreNamedOwned ds)
            → MovedTypesAreListed → (AreListed 0 types i.all → AreListed 0 ds i.all) → MovedInterfacesHaveNamesApart → MovedNamelessAreFree → (AreNamelessFree types → AreNamelessFree ds) → AreItemsWhole (items ds ns i w)
        whole more ds ns w grown known s e named stand stands apart free frees = record {
          natures_are = known;
          rows = subst (λ (xs : List TypeDef). AreRows xs i.all i.uses) (sym grown) (rows_kept types more types_backward i.all i.uses interfaces_are rows);
          holds =
              subst (λ (xs : List TypeDef). HoldTheirTypes 0 xs i.all) (sym grown)
              (held_more types more types_backward 0 i.all (functions_there types i.all interfaces_are) (subst AreNamedOwned grown (named holds.named)) holds);
          listed = stands (listed stand);
          names = names_are apart;
          nameless = frees (nameless free);
          sound = subst (λ (n : ℕ). AreSound n ds w) uses_long s;
          elaborated = e;
          interfaces_are = λ d h. subst (λ (xs : List TypeDef). IsInterfaceThere xs d) (sym grown) (interface_kept types more d (interfaces_are d h));
        }
