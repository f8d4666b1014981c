-- Worlds of a package that take types by use do so where they stand in a graph.
use Rattle.std.proofs.Common.{◌≡◌, ℕ, zero, suc, ◌+◌, length, Bool, true, false, List, [], ◌∷◌, ◌++◌, inl, inr, Option, Some, map, refl, sym, subst, ap, ◌∙◌}
use Rattle.std.proofs.lemmas.Bool.{eq-eqb, eqb-true, and_parts}
use Rattle.std.specs.Prelude.{is_some, unwrap_or, slice_get}
use Rattle.std.proofs.lemmas.Option.{same_Some}
use Rattle.wit_joined.specs.Passed.wit_order-Order.{Has}
use Rattle.wit_joined.proofs.Passed.wit_order-Lists.{has_was}
use Rattle.wit_joined.specs.Passed.wit_types-declared-interface-TypeOwner.{TypeOwner}
use Rattle.wit_joined.specs.Passed.wit_types-declared-interface-TypeOwner-TheVariants as belongs
use Rattle.wit_joined.specs.Passed.wit_types-declared-world-WorldItem.{WorldItem}
use Rattle.wit_joined.specs.Passed.wit_types-declared-world-WorldItem-TheVariants as item
use Rattle.wit_joined.specs.Passed.wit_types-declared-world_key-WorldKey.{WorldKey}
use Rattle.wit_joined.specs.Passed.wit_types-World.{span_of}
use Rattle.wit_joined.specs.Passed.wit_features-Features.{FeatureSet, stays as gate_stays}
use Rattle.wit_joined.specs.Passed.wit_moves-Breaks.{AnyOf, IsKept}
use Rattle.wit_joined.specs.Passed.wit_moves-Moved.{Places, place_of, is_placed, to, resource_of, is_resource_placed}
use Rattle.wit_joined.specs.Passed.wit_moves-Interfaces.{no_entries, one_goes, one_stays}
use Rattle.wit_joined.specs.Passed.wit_moves-Plan.{is_owner_placed, moved_owner}
use Rattle.wit_joined.specs.Passed.wit_plans-Checks.{Standing, SidesBreak, WorldBreaks}
use Rattle.wit_placed.specs.Worlds.{WorldsTakePlacesAlone}
use Rattle.wit_joined.specs.Passed.wit_types-declared-world-World.{World}
use Rattle.wit_joined.specs.Passed.wit_moves-Worlds.{item_stays, is_item_placed, IsMovedItem, moved_interface, moved_function, moved_type, moved_entry, AreMovedItems, IsMovedSide, SideBreaks}
use Rattle.wit_joined.specs.Passed.wit_reach-Ids.{item_ids, side_ids}
use Rattle.wit_joined.specs.Passed.wit_reach-Lists.{item_type, type_items}
use Rattle.wit_joined.specs.Passed.wit_reach-Made.{is_open}
use Rattle.wit_joined.specs.Passed.wit_reach-Types.{IsOfItem}
use Rattle.wit_joined.proofs.Passed.wit_reach-Lists.{has_append, has_parts}
use Rattle.wit_placed.proofs.Passed.wit_moved_trees-Moving.{placed_some}
use Rattle.wit_placed.proofs.Passed.wit_moved_trees-Parts.{function_from, function_placed}
use Rattle.wit_placed.proofs.Holding.{goes_to}
use Rattle.wit_placed.proofs.Members.{has_at}
use Rattle.wit_uses.specs.Uses.{IsOwn}
use Rattle.wit_uses.specs.Moved.{moved_types, IsOfMoved, MovedWorldsTakeByUse, PlacedWorldsTakeByUse}
use Rattle.wit_uses.proofs.Behind.{Began, moved_takes}

abbrev Entry : Type 0
Entry = WorldKey × WorldItem

holds : (b : Bool) → (b ≡ false → ⊥) → b ≡ true
holds true h = refl
holds false h = absurd (h refl)

-- ---- what stays of a side

-- an id stood in the side, and goes there
record Came (places : Places) (ids : List ℕ) (j : ℕ) : Type 0 where
  id : ℕ
  has : Has ids id
  goes : place_of places id ≡ Some j

came_on : (places : Places) (ids more : List ℕ) (j : ℕ) → Came places more j → Came places (ids ++ more) j
came_on places ids more j c = record { id = c.id; has = has_append ids more c.id c.has; goes = c.goes }

came_here : (places : Places) (ids more : List ℕ) (j : ℕ) → Came places ids j → Came places (ids ++ more) j
came_here places ids more j c = record { id = c.id; has = has_was ids more c.id c.has; goes = c.goes }

module _ (features : FeatureSet) (places interfaces : Places) where
  item_came : (v w : WorldItem) → item_stays features places v ≡ true → is_item_placed places interfaces v ≡ true → IsMovedItem (to places) (to interfaces) v w → (j : ℕ) → Has (item_ids w) j → Came places (item_ids v) j
  item_came _ _ st placed (moved_interface id stability span) j h = absurd h
  item_came _ _ st placed (moved_function f g m) j h =
      let q = and_parts (gate_stays features f.stability) (is_resource_placed places (resource_of f.kind)) st in
      let part = function_from (to places) f g j m h in
      record { id = part.0; has = part.1; goes = goes_to places part.0 j (function_placed places f q.1 placed part.0 part.1) part.2 }
  item_came _ _ st placed (moved_type id span) j h = elim h as (λ _. Came places (id ∷ []) j) [
    | inl here ↦ record { id = id; has = inl refl; goes = goes_to places id j placed (sym here) }
    | inr none ↦ absurd none
  ]

  items_came : (old kept : List Entry) → ((e : Entry) → Has old e → item_stays features places e.1 ≡ true → is_item_placed places interfaces e.1 ≡ true) → AreMovedItems features places interfaces old kept
      → (j : ℕ) → Has (side_ids (map (moved_entry (to interfaces)) kept)) j → Came places (side_ids old) j
  items_came _ _ all no_entries j h = absurd h
  items_came _ _ all (one_goes k v es fs st rest) j h = came_on places (item_ids v) (side_ids es) j (items_came es fs (λ e x. all e (inr x)) rest j h)
  items_came _ _ all (one_stays k v w es fs st m rest) j h = elim (has_parts (item_ids w) (side_ids (map (moved_entry (to interfaces)) fs)) j h) as (λ _. Came places (side_ids ((k, v) ∷ es)) j) [
    | inl here ↦ came_here places (item_ids v) (side_ids es) j (item_came v w st (all (k, v) (inl refl) st) m j here)
    | inr later ↦ came_on places (item_ids v) (side_ids es) j (items_came es fs (λ e x. all e (inr x)) rest j later)
  ]

  side_came : (old new : List Entry) → IsKept (SideBreaks features places interfaces old) → IsMovedSide features places interfaces old new → (j : ℕ) → Has (side_ids new) j → Came places (side_ids old) j
  side_came old new kept moved j h =
      items_came old moved.0 (λ e has st. holds (is_item_placed places interfaces e.1) (λ u. (let r = has_at old e has in kept (span_of e.1) (record { place = r.0; one = e; there = r.1; stays = st; unplaced = u; stands = refl })))) moved.1 j
      (subst (λ (es : List Entry). Has (side_ids es) j) moved.2 h)

  -- a type that is listed is where it goes
  item_goes : (v w : WorldItem) → IsMovedItem (to places) (to interfaces) v w → (i j : ℕ) → Has (item_type v) i → to places i ≡ j → Has (item_type w) j
  item_goes _ _ (moved_interface id stability span) i j h goes = absurd h
  item_goes _ _ (moved_function f g m) i j h goes = absurd h
  item_goes _ _ (moved_type id span) i j h goes = elim h as (λ _. Has (to places id ∷ []) j) [
    | inl here ↦ inl (sym goes ∙ ap (to places) here)
    | inr none ↦ absurd none
  ]

  -- and it stays, since it goes somewhere
  type_stays : (v : WorldItem) (i : ℕ) → Has (item_type v) i → is_placed places i ≡ true → item_stays features places v ≡ true
  type_stays (item.Interface id stability span) i h placed = absurd h
  type_stays (item.Function f) i h placed = absurd h
  type_stays (item.TypeItem id span) i h placed = elim h as (λ _. is_placed places id ≡ true) [
    | inl here ↦ ap (is_placed places) (sym here) ∙ placed
    | inr none ↦ absurd none
  ]

  items_go : (old kept : List Entry) → AreMovedItems features places interfaces old kept → (i j : ℕ) → Has (type_items old) i → is_placed places i ≡ true → to places i ≡ j → Has (type_items (map (moved_entry (to interfaces)) kept)) j
  items_go _ _ no_entries i j h placed goes = absurd h
  items_go _ _ (one_goes k v es fs st rest) i j h placed goes = elim (has_parts (item_type v) (type_items es) i h) as (λ _. Has (type_items (map (moved_entry (to interfaces)) fs)) j) [
    | inl here ↦ absurd (let e = type_stays v i here placed in cc)
    | inr later ↦ items_go es fs rest i j later placed goes
  ]
  items_go _ _ (one_stays k v w es fs st m rest) i j h placed goes =
      elim (has_parts (item_type v) (type_items es) i h) as (λ _. Has (item_type w ++ type_items (map (moved_entry (to interfaces)) fs)) j) [
        | inl here ↦ has_was (item_type w) (type_items (map (moved_entry (to interfaces)) fs)) j (item_goes v w m i j here goes)
        | inr later ↦ has_append (item_type w) (type_items (map (moved_entry (to interfaces)) fs)) j (items_go es fs rest i j later placed goes)
      ]

  side_goes : (old new : List Entry) → IsMovedSide features places interfaces old new → (i j : ℕ) → Has (type_items old) i → place_of places i ≡ Some j → Has (type_items new) j
  side_goes old new moved i j h goes =
      subst (λ (es : List Entry). Has (type_items es) j) (sym moved.2)
      (items_go old moved.0 moved.1 i j h (ap (λ (o : Option ℕ). is_some o) goes) (ap (λ (o : Option ℕ). unwrap_or o i) goes))

-- ---- a world

pub worlds_take : MovedWorldsTakeByUse
worlds_take features owners s owner foreign own graph fs others own_interfaces new_interfaces interfaces others_interfaces b others_are there v w world m stands only moved kept takes =
    moved_takes features owners s owner foreign own graph fs others own_interfaces new_interfaces interfaces others_interfaces b others_are there (belongs.World v) (belongs.World w) (Has (type_items world.imports.entries)) (Has (moved_types m)) (IsOfItem world) (IsOfMoved m)
    takes owner_goes owner_came (λ p less into. cc) (λ none. cc) (λ o less same. cc) began listed_goes
  where
    owner_goes : (o : TypeOwner) → IsOwn (belongs.World v) o → IsOwn (belongs.World w) (moved_owner owners o)
    owner_goes o (inl none) = inl (ap (moved_owner owners) none)
    owner_goes o (inr same) = inr (ap (moved_owner owners) same ∙ ap (λ (q : Option ℕ). belongs.World (unwrap_or q v)) stands)

    owner_came : (o : TypeOwner) → is_owner_placed owners o ≡ true → is_open (belongs.World w) (moved_owner owners o) ≡ true → is_open (belongs.World v) o ≡ true
    owner_came belongs.None p into = refl
    owner_came (belongs.Interface o) p into = absurd cc
    owner_came (belongs.World o) p into =
        let j = placed_some (place_of owners.worlds o) p in
        let is : to owners.worlds o ≡ j.0 = ap (λ (q : Option ℕ). unwrap_or q o) j.1 in
        let same : to owners.worlds o ≡ w = eqb-true (to owners.worlds o) w into in
        eq-eqb o v (only o (j.1 ∙ ap (λ (n : ℕ). Some n) (sym is ∙ same)))

    began : (j : ℕ) → IsOfMoved m j → Began s.types (IsOfItem world) j
    began j (inl h) = (let c = side_came features s.types s.interfaces world.imports.entries m.imports.items (λ at k. kept at (inl k)) moved.imports j h in record { id = c.id; goes = c.goes; starts = inl c.has })
    began j (inr h) = (let c = side_came features s.types s.interfaces world.exports.entries m.exports.items (λ at k. kept at (inr k)) moved.exports j h in record { id = c.id; goes = c.goes; starts = inr c.has })

    listed_goes : (i j : ℕ) → Has (type_items world.imports.entries) i → place_of s.types i ≡ Some j → Has (moved_types m) j
    listed_goes i j h goes = side_goes features s.types s.interfaces world.imports.entries m.imports.items moved.imports i j h goes

-- ---- all worlds of a package

pub sides_kept : (features : FeatureSet) (s : Standing) (ws : List World) (i : ℕ) (w : World) → IsKept (AnyOf (WorldBreaks features s) ws) → slice_get ws i ≡ Some w → gate_stays features w.stability ≡ true → IsKept (SidesBreak features s w)
sides_kept features s [] i w kept at st = absurd cc
sides_kept features s (x ∷ ws) zero w kept at st = λ sp b. kept sp (inl (subst (λ (v : World). WorldBreaks features s v sp) (sym (same_Some x w at)) (st, inl b)))
sides_kept features s (x ∷ ws) (suc i) w kept at st = sides_kept features s ws i w (λ sp b. kept sp (inr b)) at st

pub placed_take : WorldsTakePlacesAlone → PlacedWorldsTakeByUse
placed_take alone features owners s owner foreign own graph fs others own_interfaces new_interfaces interfaces others_interfaces b others_are there others_worlds base own_worlds ms below places moved kept takes k m at =
    let a = alone features s others_worlds base own_worlds ms below moved k m at in
    let v : ℕ = length others_worlds + a.place in
    worlds_take features owners s owner foreign own graph fs others own_interfaces new_interfaces interfaces others_interfaces b others_are there v (base + k) a.old m
    (subst (λ (ps : Places). place_of ps v ≡ Some (base + k)) (sym places) a.stands) (λ u h. a.only u (subst (λ (ps : Places). place_of ps u ≡ Some (base + k)) places h)) a.moved
    (sides_kept features s own_worlds a.place a.old kept a.was a.kept) (takes a.place a.old a.was)
