-- Copies of a world's types stand behind those that they are made of, and what comes with them is made of types that are there.
use Rattle.std.proofs.Common.{◌≡◌, ℕ, ◌<◌, ◌+◌, suc, zero, Bool, true, false, List, [], ◌∷◌, ◌++◌, ◌⊎◌, inl, inr, Option, Some, None, refl, sym, subst, ap, ◌∙◌, arith, length, length-append, get_or, nat_eq, map}
use Rattle.std.proofs.lemmas.Bool.{eqb-true}
use Rattle.std.proofs.lemmas.List.Quantifiers.{position-Some}
use Rattle.std.proofs.lemmas.Option.{same_Some, slice_get_within, slice_get-get_or}
use Rattle.std.specs.Prelude.{slice_get, position, option_map, unwrap_or, String}
use Rattle.std.specs.declared.alloc.Global.{Global}
use Rattle.wit_arena.specs.Passed.wit_types-declared-interface-TypeDef.{TypeDef}
use Rattle.wit_arena.specs.Passed.wit_types-declared-world-IncludeName.{IncludeName}
use Rattle.wit_arena.specs.Passed.wit_types-declared-world-WorldItem.{WorldItem}
use Rattle.wit_arena.specs.Passed.wit_types-declared-world-WorldItem-TheVariants as item
use Rattle.wit_arena.specs.Passed.wit_types-declared-world_key-WorldKey.{WorldKey}
use Rattle.wit_arena.specs.Passed.wit_order-Order.{Has}
use Rattle.wit_includes.specs.Passed.wit_reach-Paths.{AreRising}
use Rattle.wit_includes.specs.Passed.wit_reach-Ids.{kind_ids, item_ids, side_ids}
use Rattle.wit_includes.specs.Passed.wit_reach-Types.{IsMadeOf}
use Rattle.wit_includes.specs.Passed.wit_copies-Copies as copies
use Rattle.wit_includes.specs.Passed.wit_copies-Copies.{Copies, goes, AreCopied, AreCopiedEntries}
use Rattle.wit_includes.specs.Passed.wit_sides-Renames as renames
use Rattle.wit_includes.specs.Passed.wit_sides-Renames.{IsRenamedItem, AreRenamed}
use Rattle.wit_includes.specs.Included as brings
use Rattle.wit_includes.specs.Included.{copies_behind, is_of_world, IsRenamedName, AreRenamedDefs}
use Rattle.wit_copied_trees.specs.There.{IncludedTypesAreBackward, IncludedSidesAreThere}
use Rattle.wit_copied_trees.proofs.Members.{get_has}
use Rattle.wit_arena.proofs.Passed.wit_order-Lists.{has_was}
use Rattle.wit_includes.proofs.Passed.wit_reach-Lists.{has_parts, has_append}
use Rattle.wit_copied_trees.proofs.MovedIds.{has_moved, kind_moved, item_moved}

-- what stands in two lists stands in the first, or behind it
get_parts : {X : Type 0} (xs ys : List X) (i : ℕ) (x : X) → slice_get (xs ++ ys) i ≡ Some x → (slice_get xs i ≡ Some x) ⊎ ((k : ℕ) × (i ≡ length xs + k) × (slice_get ys k ≡ Some x))
get_parts [] ys i x h = inr (i, (omega arith), h)
get_parts (z ∷ xs) ys zero x h = inl h
get_parts (z ∷ xs) ys (suc i) x h =
    elim (get_parts xs ys i x h) as (λ _. (slice_get (z ∷ xs) (suc i) ≡ Some x) ⊎ ((k : ℕ) × (suc i ≡ length (z ∷ xs) + k) × (slice_get ys k ≡ Some x))) [
      | inl a ↦ inl a
      | inr b ↦ inr (b.0, (let e : i ≡ length xs + b.0 = b.1 in omega arith), b.2)
    ]

-- the lesser of a rising list stands before the greater
place_before : (xs : List ℕ) (k p x y : ℕ) → AreRising xs → slice_get xs k ≡ Some x → slice_get xs p ≡ Some y → y < x → p < k
place_before [] k p x y r h g l = absurd cc
place_before (z ∷ xs) zero zero x y r h g l = absurd (let e = same_Some z x h in let d = same_Some z y g in omega (arith, e, d))
place_before (z ∷ xs) zero (suc p) x y r h g l = absurd (let e : z ≡ x = same_Some z x h in let d : z < y = r.0 y (get_has xs p y g) in omega (arith, e, d))
place_before (z ∷ xs) (suc k) zero x y r h g l = omega arith
place_before (z ∷ xs) (suc k) (suc p) x y r h g l = (let q : p < k = place_before xs k p x y r.1 h g l in omega arith)

-- a type is found at its copy, or where it was
goes_cases : (types : List TypeDef) (own : List ℕ) (i : ℕ) → ((k : ℕ) × (slice_get own k ≡ Some i) × (goes (copies_behind types own) i ≡ length types + k)) ⊎ (goes (copies_behind types own) i ≡ i)
goes_cases types own i = by (position (nat_eq i) own) refl
  where
    by : (o : Option ℕ) → position (nat_eq i) own ≡ o
        → ((k : ℕ) × (slice_get own k ≡ Some i) × (unwrap_or (option_map (λ (n : ℕ). length types + n) o) i ≡ length types + k)) ⊎ (unwrap_or (option_map (λ (n : ℕ). length types + n) o) i ≡ i)
    by None e = inr refl
    by (Some k) e =
        let p = position-Some (nat_eq i) own k 0 e in
        inl (k, slice_get-get_or own k 0 p.0 ∙ ap (λ (n : ℕ). Some n) (sym (eqb-true i (get_or own k 0) p.1)), refl)

-- ---- types

renamed_kind : (names : List IncludeName) (b : Bool) (n : Option (String Global)) (e g : TypeDef) → IsRenamedName names b e n g → g.kind ≡ e.kind
renamed_kind names true None e g r = ap (λ (d : TypeDef). d.kind) r
renamed_kind names false n e g r = ap (λ (d : TypeDef). d.kind) r
renamed_kind names true (Some x) e g r = ap (λ (d : TypeDef). d.kind) r.2

module _ (names : List IncludeName) (from into : ℕ) (types : List TypeDef) (c : Copies) where
  so_many : (is : List ℕ) (es gs : List TypeDef) → AreCopied c from into types is es → AreRenamedDefs names into es gs → length gs ≡ length is
  so_many _ _ _ copies.no_types brings.no_types = refl
  so_many _ _ _ (copies.one_more i d e is es at m more) (brings.one_more _ g _ gs r rest) = (let n : length gs ≡ length is = so_many is es gs more rest in omega (arith, n))

  -- what stands there is of a type that was copied, made of the types where they are found
  copy_at : (is : List ℕ) (es gs : List TypeDef) → AreCopied c from into types is es → AreRenamedDefs names into es gs → (k : ℕ) (g : TypeDef) → slice_get gs k ≡ Some g
      → (i : ℕ) × (d : TypeDef) × (slice_get is k ≡ Some i) × (slice_get types i ≡ Some d) × (kind_ids g.kind ≡ map (goes c) (kind_ids d.kind))
  copy_at _ _ _ copies.no_types brings.no_types k h at = absurd cc
  copy_at _ _ _ (copies.one_more i d e is es there m more) (brings.one_more _ g _ gs r rest) zero h at = (
    i,
    d,
    refl,
    there,
    ap (λ (z : TypeDef). kind_ids z.kind) (sym (same_Some g h at)) ∙ ap kind_ids (renamed_kind names (is_of_world into e.owner) e.name e g r) ∙ kind_moved (goes c) d.kind m.0.kind e.kind m.1.kind m.2.kind,
  )
  copy_at _ _ _ (copies.one_more i d e is es there m more) (brings.one_more _ g _ gs r rest) (suc k) h at = copy_at is es gs more rest k h at

-- a type below one that is copied is found before its copy
found_before : (types : List TypeDef) (own : List ℕ) (k i j : ℕ) → AreRising own → slice_get own k ≡ Some i → i < length types → j < i → goes (copies_behind types own) j < length types + k
found_before types own k i j rising at there below =
    elim (goes_cases types own j) as (λ _. goes (copies_behind types own) j < length types + k) [
      | inl one ↦ (let q : one.0 < k = place_before own k one.0 i j rising at one.1 below in let e : goes (copies_behind types own) j ≡ length types + one.0 = one.2 in omega (arith, q, e))
      | inr other ↦ (let e : goes (copies_behind types own) j ≡ j = other in omega (arith, e))
    ]

pub included_backward : IncludedTypesAreBackward
included_backward names from into world types own new backward are_own included =
    (behind, so_many names from into types (copies_behind types own) own included.0 new included.1 included.2)
  where
    behind : (i j : ℕ) → IsMadeOf (types ++ new) i j → j < i
    behind i j made =
        elim (get_parts types new i made.0 made.1) as (λ _. j < i) [
          | inl first ↦ backward i j (made.0, first, made.2)
          | inr later ↦
              let c : Copies = copies_behind types own in
              let a = copy_at names from into types c own included.0 new included.1 included.2 later.0 made.0 later.2 in
              let o = has_moved (goes c) (kind_ids a.1.kind) j (subst (λ (ids : List ℕ). Has ids j) a.4 made.2) in
              let below : o.0 < a.0 = backward a.0 o.0 (a.1, a.3, o.1) in
              let n : goes c o.0 < length types + later.0 = found_before types own later.0 a.0 o.0 are_own.rising a.2 (slice_get_within types a.0 a.1 a.3) below in
              let e : j ≡ goes c o.0 = o.2 in
              let f : i ≡ length types + later.0 = later.1 in
              omega (arith, n, e, f)
        ]

-- ---- sides

renamed_ids : (names : List IncludeName) (x y : WorldItem) → IsRenamedItem names x y → item_ids y ≡ item_ids x
renamed_ids names (item.Function f) y r = ap item_ids r.1
renamed_ids names (item.Interface id stability span) y r = ap item_ids r
renamed_ids names (item.TypeItem id span) y r = ap item_ids r

-- what was there is there where it is found
goes_there : (types : List TypeDef) (own : List ℕ) (new : List TypeDef) (i : ℕ) → length new ≡ length own → i < length types → goes (copies_behind types own) i < length (types ++ new)
goes_there types own new i so_long there =
    let n : length (types ++ new) ≡ length types + length new = length-append types new in
    elim (goes_cases types own i) as (λ _. goes (copies_behind types own) i < length (types ++ new)) [
      | inl one ↦ (let q : one.0 < length own = slice_get_within own one.0 i one.1 in let e : goes (copies_behind types own) i ≡ length types + one.0 = one.2 in omega (arith, n, so_long, q, e))
      | inr other ↦ (let e : goes (copies_behind types own) i ≡ i = other in omega (arith, n, e))
    ]

module _ (names : List IncludeName) (c : Copies) where
  -- what a side that is copied is made of is what the side was, where that is found
  side_from : (es fs gs : List (WorldKey × WorldItem)) → AreCopiedEntries c es fs → AreRenamed names fs gs → (j : ℕ) → Has (side_ids gs) j → (i : ℕ) × Has (side_ids es) i × (j ≡ goes c i)
  side_from _ _ _ copies.no_entries renames.no_entries j h = absurd h
  side_from _ _ _ (copies.one_entry_more k l x y es fs s m more) (renames.one_more _ n _ z _ gs q r rest) j h =
      let e : item_ids z ≡ map (goes c) (item_ids x) = renamed_ids names y z r ∙ item_moved (goes c) x m.0 y m.1 m.2 in
      elim (has_parts (item_ids z) (side_ids gs) j h) as (λ _. (i : ℕ) × Has (side_ids ((k, x) ∷ es)) i × (j ≡ goes c i)) [
        | inl here ↦ (let o = has_moved (goes c) (item_ids x) j (subst (λ (ids : List ℕ). Has ids j) e here) in (o.0, has_was (item_ids x) (side_ids es) o.0 o.1, o.2))
        | inr later ↦ (let o = side_from es fs gs more rest j later in (o.0, has_append (item_ids x) (side_ids es) o.0 o.1, o.2))
      ]

pub included_sides : IncludedSidesAreThere
included_sides names types own new side brought so_long there entries =
    λ j h.
    let o = side_from names (copies_behind types own) side entries.0 brought entries.1 entries.2 j h in
    subst (λ (n : ℕ). n < length (types ++ new)) (sym o.2) (goes_there types own new o.0 so_long (there o.0 o.1))
