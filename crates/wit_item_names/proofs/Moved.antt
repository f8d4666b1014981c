-- Interfaces of which a package uses types have names where it stands in a graph.
use Rattle.std.proofs.Common.{◌≡◌, ℕ, ◌+◌, ◌-◌, ◌<◌, ◌≤◌, true, false, List, [], ◌∷◌, ◌++◌, ◌⊎◌, inl, inr, Option, Some, String, refl, sym, subst, ap, ◌∙◌, arith, length, map, nat_eq}
use Rattle.std.proofs.lemmas.Bool.{cases_Bool, eq-eqb, eqb-true}
use Rattle.std.proofs.lemmas.Option.{same_Some}
use Rattle.std.specs.Prelude.{slice_get, unwrap_or}
use Rattle.std.specs.declared.alloc.Global.{Global}
use Rattle.wit_order.specs.Order.{Has}
use Rattle.wit_order.proofs.Lists.{has_was}
use Rattle.wit_types.specs.declared.kind.TypeDefKind.{TypeDefKind}
use Rattle.wit_types.specs.declared.interface.Interface.{Interface}
use Rattle.wit_types.specs.declared.interface.TypeDef.{TypeDef}
use Rattle.wit_types.specs.declared.interface.TypeOwner.{TypeOwner}
use Rattle.wit_types.specs.declared.interface.TypeOwner.TheVariants as belongs
use Rattle.wit_types.specs.declared.world.World.{World}
use Rattle.wit_types.specs.declared.«package».Package.{Package}
use Rattle.wit_features.specs.Features.{FeatureSet}
use Rattle.wit_moves.specs.Breaks.{IsKept}
use Rattle.wit_moves.specs.Moved.{Places, place_of, to}
use Rattle.wit_moves.specs.Plan.{OwnerPlaces, moved_owner}
use Rattle.wit_labels.specs.Passed.wit_finding-Types.{type_found}
use Rattle.wit_labels.specs.Passed.wit_plans-Checks.{Standing, SidesBreak}
use Rattle.wit_labels.specs.Passed.wit_plans-Moves.{IsMovedWorld}
use Rattle.wit_labels.specs.Passed.wit_plans-declared-moves-MovedWorld.{MovedWorld}
use Rattle.wit_reach.specs.Deps.{interface_of, is_of_interface, IsDepOf, AreUsed, IsInterfaceDep}
use Rattle.wit_reach.specs.Holding.{HoldTheirTypes}
use Rattle.wit_reach.specs.Ids.{kind_ids}
use Rattle.wit_reach.specs.Lists.{item_types, type_items, listed_in}
use Rattle.wit_reach.specs.Types.{AreTypesBackward}
use Rattle.wit_reach.proofs.Growing.{get_same, dep_same, used_was}
use Rattle.wit_reach.proofs.Holding.{alias_of, of_alias, got, has_mapped, mapped_has}
use Rattle.wit_reach.proofs.Lists.{has_append, has_parts}
use Rattle.wit_labels.proofs.Passed.wit_arena-Lists.{get_kept}
use Rattle.wit_labels.specs.Passed.wit_placed-Order.{AreBehind, interface_places}
use Rattle.wit_labels.specs.Passed.wit_placed-There.{IsInterfaceThere}
use Rattle.wit_labels.proofs.Passed.wit_placed-Holding.{goes_to, name_was}
use Rattle.wit_labels.proofs.Passed.wit_placed-Members.{has_at, has_get}
use Rattle.wit_labels.proofs.Passed.wit_placed-Own.{interface_from, interfaces_from, interfaces_take_places, only_one, others_stay, worlds_take_places_alone}
use Rattle.wit_labels.proofs.Passed.wit_placed-Sources.{owner_stands}
use Rattle.wit_graph_worlds.proofs.Passed.wit_uses-Behind.{Comes, sources, other_found, other_stands, was_at}
use Rattle.wit_graph_worlds.proofs.Passed.wit_uses-Brought.{alias_came}
use Rattle.wit_graph_worlds.proofs.Passed.wit_uses-Moving.{get_either}
use Rattle.wit_graph_worlds.proofs.Passed.wit_uses-Worlds.{sides_kept}
use Rattle.wit_item_names.specs.Used.{IsNamed, IsOwnNamed, SidesUseNamed}
use Rattle.wit_item_names.specs.Placed.{PlacedUseNamed}
use Rattle.wit_item_names.proofs.Named.{named_more, new_named}
use Rattle.wit_item_names.proofs.Sides.{side_types_came, side_listed_came}

-- what doesn't belong to an interface where both are moved didn't
other_was : (owners : OwnerPlaces) (o : TypeOwner) (j k : ℕ) → place_of owners.interfaces j ≡ Some k → is_of_interface k (moved_owner owners o) ≡ false → is_of_interface j o ≡ false
other_was owners (belongs.World w) j k stands other = refl
other_was owners belongs.None j k stands other = refl
other_was owners (belongs.Interface i) j k stands other = elim (cases_Bool (nat_eq i j)) as (λ _. nat_eq i j ≡ false) [
  | inl same ↦
      let goes : to owners.interfaces i ≡ k = ap (to owners.interfaces) (eqb-true i j same) ∙ ap (λ (o : Option ℕ). unwrap_or o j) stands in
      let one : nat_eq (to owners.interfaces i) k ≡ true = eq-eqb (to owners.interfaces i) k goes in
      absurd cc
  | inr differ ↦ differ
]

module _ (features : FeatureSet) (owners : OwnerPlaces) (s : Standing) (packages : List Package) (q : Package) (foreign own graph fs : List TypeDef) (others : Places) (own_interfaces new_interfaces interfaces : List Interface) (others_interfaces : Places)
    (b : AreBehind features owners s (length packages) foreign own graph fs others own_interfaces new_interfaces others_interfaces (length interfaces)) (others_are : others ≡ map (type_found interfaces others_interfaces) foreign)
    (hold : HoldTheirTypes 0 graph interfaces) (found_named : (i j : ℕ) → place_of others_interfaces i ≡ Some j → IsNamed packages interfaces j)
    (uses_named : (k j : ℕ) (d : Interface) → slice_get interfaces k ≡ Some d → IsInterfaceDep graph d j → IsNamed packages interfaces j)
  where
    abbrev base : ℕ
    base = length interfaces

    abbrev asked : ℕ
    asked = length others_interfaces

    abbrev places : Places
    places = interface_places features others_interfaces base own_interfaces

    abbrev Named : ℕ → Type 0
    Named j = IsNamed (packages ++ q ∷ []) (interfaces ++ new_interfaces) j

    abbrev OwnNamed : ℕ → Type 0
    OwnNamed j = IsOwnNamed asked own_interfaces j

    still_named : (j : ℕ) → IsNamed packages interfaces j → Named j
    still_named j h = named_more packages (q ∷ []) interfaces new_interfaces j h

    graph_backward : AreTypesBackward graph
    graph_backward i j (d, at, has) = b.backward i j (d, get_kept graph fs i d at, has)

    -- ---- interfaces

    own_named : (k j : ℕ) (d : Interface) (x : String Global) → slice_get own_interfaces k ≡ Some d → d.name ≡ Some x → place_of places (asked + k) ≡ Some j → Named j
    own_named k j d x at named stands =
        let low : base ≤ j = interfaces_from features others_interfaces base own_interfaces (asked + k) j (omega arith) stands in
        let high : j < base + length new_interfaces = interfaces_take_places features s (length packages) others_interfaces base own_interfaces new_interfaces b.below b.interfaces_moved (asked + k) j stands in
        let e = got new_interfaces (j - base) (omega (arith, low, high)) in
        let f = interface_from features s (length packages) others_interfaces base own_interfaces new_interfaces b.interfaces_moved (j - base) e.0 e.1 in
        let n : base + (j - base) ≡ j = omega (arith, low) in
        let same : asked + k ≡ asked + f.place = only_one features others_interfaces base (map (λ (y : Interface). y.stability) own_interfaces) b.below (asked + f.place) (asked + k) j (omega arith) (f.stands ∙ ap (λ (m : ℕ). Some m) n) stands in
        let place : f.place ≡ k = omega (arith, same) in
        let one : f.old ≡ d = same_Some f.old d (sym f.was ∙ ap (slice_get own_interfaces) place ∙ at) in
        subst Named n (new_named packages q interfaces new_interfaces (j - base) e.0 x e.1 f.moved.owner_is (f.moved.name ∙ ap (λ (y : Interface). y.name) one ∙ named))

    place_named : (i j : ℕ) → OwnNamed i → place_of owners.interfaces i ≡ Some j → Named j
    place_named i j named stands =
        let here : place_of places i ≡ Some j = subst (λ (ps : Places). place_of ps i ≡ Some j) b.places stands in
        elim named as (λ _. Named j) [
          | inl less ↦ still_named j (found_named i j (others_stay features others_interfaces base (map (λ (y : Interface). y.stability) own_interfaces) i j less here))
          | inr (k, d, x, e, at, is) ↦ own_named k j d x at is (ap (place_of places) (sym e) ∙ here)
        ]

    -- ---- types that are other names of types of interfaces

    abbrev From : ℕ → ℕ → Type 0
    From i j = Comes features owners s (length packages) foreign own graph fs others own_interfaces new_interfaces interfaces others_interfaces b others_are hold i j

    source : (i j : ℕ) → place_of s.types i ≡ Some j → (place_of others i ≡ Some j) ⊎ From i j
    source i j h = (sources features owners s (length packages) foreign own graph fs others own_interfaces new_interfaces interfaces others_interfaces b others_are hold).sources i j h

    was : (i j : ℕ) (f : From i j) → slice_get (foreign ++ own) i ≡ Some f.old
    was i j f = was_at features owners s (length packages) foreign own graph fs others own_interfaces new_interfaces interfaces others_interfaces b others_are hold i j f

    -- of a type of the graph
    other_named : (i k j : ℕ) → place_of others i ≡ Some k → IsDepOf (graph ++ fs) k j → Named j
    other_named i k j o (d, at, dep) =
        let f = (other_found features owners s (length packages) foreign own graph fs others own_interfaces new_interfaces interfaces others_interfaces b others_are hold i k o).2 in
        let here : slice_get graph k ≡ Some d = sym (get_same graph fs k (b.others_within i k o)) ∙ at in
        still_named j (uses_named f.place j f.here f.there (k, f.listed, (d, here, sym (dep_same graph fs graph_backward k d here) ∙ dep)))

    -- of one of the package's
    from_named : (i k j : ℕ) (f : From i k) → IsDepOf (graph ++ fs) k j → ((n : ℕ) → IsDepOf (foreign ++ own) i n → OwnNamed n) → Named j
    from_named i k j f (d, at, dep) own_ok =
        let same : f.new ≡ d = same_Some f.new d (sym f.is ∙ at) in
        let a = alias_of (graph ++ fs) d j dep in
        let target = alias_came (to s.types) f.old.kind f.new.kind f.moved.kind a.target (ap (λ (x : TypeDef). x.kind) same ∙ a.kind_is) in
        let has : Has (kind_ids f.old.kind) target.0 = subst (λ (x : TypeDefKind). Has (kind_ids x) target.0) (sym target.1) (inl refl) in
        elim (source target.0 a.target (goes_to s.types target.0 a.target (f.parts target.0 has) target.2)) as (λ _. Named j) [
          | inl o ↦
              let g = (other_found features owners s (length packages) foreign own graph fs others own_interfaces new_interfaces interfaces others_interfaces b others_are hold target.0 a.target o).2 in
              let its = other_stands features owners s (length packages) foreign own graph fs others own_interfaces new_interfaces interfaces others_interfaces b others_are hold target.0 a.target o a.of a.there in
              let one : belongs.Interface g.place ≡ belongs.Interface j = sym its ∙ a.owner in
              let place : g.place ≡ j = cc in
              still_named j (found_named g.interface j (g.stands ∙ ap (λ (n : ℕ). Some n) place))
          | inr g ↦
              let same_of : g.new ≡ a.of = same_Some g.new a.of (sym g.is ∙ a.there) in
              let st = owner_stands owners g.old.owner j g.owned (ap interface_of (sym g.moved.owner_is ∙ ap (λ (x : TypeDef). x.owner) same_of ∙ a.owner)) in
              let other : is_of_interface st.0 f.old.owner ≡ false =
              other_was owners f.old.owner st.0 j st.2 (ap (is_of_interface j) (sym f.moved.owner_is ∙ ap (λ (x : TypeDef). x.owner) same) ∙ a.other)
              in
              let uses = of_alias (foreign ++ own) f.old st.0 (record { target = target.0; of = g.old; kind_is = target.1; there = was target.0 a.target g; owner = st.1; other = other }) in
              place_named st.0 j (own_ok st.0 (f.old, was i k f, uses)) st.2
        ]

    dep_named : (i k j : ℕ) → place_of s.types i ≡ Some k → IsDepOf (graph ++ fs) k j → ((n : ℕ) → IsDepOf (foreign ++ own) i n → OwnNamed n) → Named j
    dep_named i k j stands dep own_ok = elim (source i k stands) as (λ _. Named j) [ inl o ↦ other_named i k j o dep | inr f ↦ from_named i k j f dep own_ok ]

    -- ---- interfaces and worlds

    pub interfaces_named : ((d : Interface) → Has interfaces d → IsInterfaceThere graph d) → ((k j : ℕ) (d : Interface) → slice_get own_interfaces k ≡ Some d → IsInterfaceDep (foreign ++ own) d j → OwnNamed j)
        → (k j : ℕ) (d : Interface) → slice_get (interfaces ++ new_interfaces) k ≡ Some d → IsInterfaceDep (graph ++ fs) d j → Named j
    interfaces_named are_there own_ok k j d at (i, has, dep) = elim (get_either interfaces new_interfaces k d at) as (λ _. Named j) [
      | inl here ↦ still_named j (uses_named k j d here (used_was graph fs graph_backward (map (λ (e : String Global × ℕ). e.1) d.types.entries) j (are_there d (has_get interfaces k d here)).names (i, has, dep)))
      | inr new ↦
          let f = interface_from features s (length packages) others_interfaces base own_interfaces new_interfaces b.interfaces_moved new.0 d new.2 in
          let e = has_mapped (λ (z : String Global × ℕ). z.1) d.types.entries i has in
          let n = name_was s.types f.old.types.entries d.types.entries e.0 f.moved.types e.1 in
          dep_named n.0 i j (n.2 ∙ ap (λ (m : ℕ). Some m) e.2) dep (λ u uses. own_ok f.place u f.old f.was (n.0, mapped_has (λ (z : String Global × ℕ). z.1) f.old.types.entries (e.0.0, n.0) n.1, uses))
    ]

    pub world_named : s.interfaces ≡ owners.interfaces → (world : World) (m : MovedWorld) → IsMovedWorld features s world m → IsKept (SidesBreak features s world) → ((j : ℕ) → AreUsed (foreign ++ own) (item_types world) j → OwnNamed j)
        → ((j : ℕ) → Has (listed_in world.imports.entries) j → OwnNamed j) → SidesUseNamed (packages ++ q ∷ []) (graph ++ fs) (interfaces ++ new_interfaces) m.imports.items m.exports.items
    world_named same world m moved kept own_ok own_listed = record {
      used = λ j (k, has, dep). elim (has_parts (type_items m.imports.items) (type_items m.exports.items) k has) as (λ _. Named j) [
        | inl first ↦
            let c = side_types_came features s.types s.interfaces world.imports.entries m.imports.items moved.imports k first in
            dep_named c.id k j c.goes dep (λ n uses. own_ok n (c.id, has_was (type_items world.imports.entries) (type_items world.exports.entries) c.id c.has, uses))
        | inr second ↦
            let c = side_types_came features s.types s.interfaces world.exports.entries m.exports.items moved.exports k second in
            dep_named c.id k j c.goes dep (λ n uses. own_ok n (c.id, has_append (type_items world.imports.entries) (type_items world.exports.entries) c.id c.has, uses))
      ];
      imported = λ j has.
          (let c = side_listed_came features s.types s.interfaces world.imports.entries m.imports.items (λ at x. kept at (inl x)) moved.imports j has in
          place_named c.id j (own_listed c.id c.has) (ap (λ (ps : Places). place_of ps c.id) (sym same) ∙ c.goes));
    }

pub placed_use_named : PlacedUseNamed
placed_use_named features owners s packages q foreign own graph fs others own_interfaces new_interfaces interfaces others_interfaces b others_are same hold are_there own_worlds ms moved kept found_named uses_named own_ok = record {
  in_interfaces = interfaces_named features owners s packages q foreign own graph fs others own_interfaces new_interfaces interfaces others_interfaces b others_are hold found_named uses_named are_there own_ok.in_interfaces;
  in_worlds = λ m h.
      (let at = has_at ms m h in
      let a = worlds_take_places_alone features s [] 0 own_worlds ms (λ i j x. absurd cc) moved at.0 m at.1 in
      world_named features owners s packages q foreign own graph fs others own_interfaces new_interfaces interfaces others_interfaces b others_are hold found_named uses_named same a.old m a.moved (sides_kept features s own_worlds a.place a.old kept a.was a.kept)
      (λ j uses. own_ok.in_worlds a.place j a.old a.was uses) (λ j has. own_ok.imported a.place j a.old a.was has));
}
