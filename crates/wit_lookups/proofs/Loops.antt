-- Loops that ask each of many, by what they stand for.
use Rattle.std.proofs.Common.{◌≡◌, ℕ, ◌+◌, ◌<◌, ◌≤◌, zero, suc, List, [], ◌∷◌, ◌++◌, ◌⊎◌, inl, inr, Some, None, map, length, get_or, refl, sym, ap, subst, ◌∙◌, arith}
use Rattle.std.proofs.lemmas.Option.{same_Some, slice_get-get_or}
use Rattle.std.specs.Prelude.{slice_get, flat_map}
use Rattle.wit_type_names.specs.Passed.wit_words-declared-source_map-Span.{Span}
use Rattle.wit_rules.specs.declared.fault.PackageRule.{PackageRule}
use Rattle.wit_rules.specs.declared.fault.PackageFault.{PackageFault}
use Rattle.wit_rules.specs.Breaks.{Breaks, IsKept, IsFaultOf, AnyBreaks}
use Rattle.wit_rules.proofs.Breaking.{AreKept, all_kept, kept_more, one_breaks, viewed_kept, viewed_breaks, widened}
use Rattle.wit_rules.proofs.Places.{read_at}

module _ {X Y : Type 0} (breaks_of : Y → Breaks) (view : X → Y) (xs : List X) where
  -- those in front of a place break nothing
  abbrev pub AreKeptTo : ℕ → Type 0
  AreKeptTo i = AreKept (λ x. breaks_of (view x)) xs i

  pub kept_on : (i : ℕ) (x : X) → i < length xs → x ≡ get_or xs i x → AreKeptTo i → IsKept (breaks_of (view x)) → AreKeptTo (i + 1)
  kept_on i x within is kept here = kept_more (λ z. breaks_of (view z)) xs i x (read_at xs i x within is) kept here

  -- the same of the element at an index by itself
  pub kept_at : (i : ℕ) (d : X) → i < length xs → AreKeptTo i → IsKept (breaks_of (view (get_or xs i d))) → AreKeptTo (i + 1)
  kept_at i d within = kept_more (λ z. breaks_of (view z)) xs i (get_or xs i d) (slice_get-get_or xs i d within)

  pub kept_through : (i : ℕ) → length xs ≤ i → AreKeptTo i → IsKept (AnyBreaks breaks_of (map view xs))
  kept_through i past kept = viewed_kept breaks_of view xs (all_kept (λ x. breaks_of (view x)) xs (λ k x less at. kept k x (omega arith) at))

  pub refused_there : (i : ℕ) (d : X) → i < length xs → (fault : PackageFault) → IsFaultOf (breaks_of (view (get_or xs i d))) fault → IsFaultOf (AnyBreaks breaks_of (map view xs)) fault
  refused_there i d within fault h = viewed_breaks breaks_of view xs fault (one_breaks (λ z. breaks_of (view z)) xs i (get_or xs i d) (slice_get-get_or xs i d within) fault h)

  pub refused_at : (i : ℕ) (x : X) → i < length xs → x ≡ get_or xs i x → (fault : PackageFault) → IsFaultOf (breaks_of (view x)) fault → IsFaultOf (AnyBreaks breaks_of (map view xs)) fault
  refused_at i x within is fault h = viewed_breaks breaks_of view xs fault (one_breaks (λ z. breaks_of (view z)) xs i x (read_at xs i x within is) fault h)

-- what stands in two lists, one behind the other, stands in one of them
either : {Y : Type 0} (xs ys : List Y) (i : ℕ) (y : Y) → slice_get (xs ++ ys) i ≡ Some y → (slice_get xs i ≡ Some y) ⊎ ((j : ℕ) × (slice_get ys j ≡ Some y))
either [] ys i y h = inr (i, h)
either (x ∷ xs) ys zero y h = inl h
either (x ∷ xs) ys (suc i) y h = either xs ys i y h

on_the_left : {Y : Type 0} (xs ys : List Y) (i : ℕ) (y : Y) → slice_get xs i ≡ Some y → slice_get (xs ++ ys) i ≡ Some y
on_the_left [] ys i y h = absurd cc
on_the_left (x ∷ xs) ys zero y h = h
on_the_left (x ∷ xs) ys (suc i) y h = on_the_left xs ys i y h

on_the_right : {Y : Type 0} (xs ys : List Y) (i : ℕ) (y : Y) → slice_get ys i ≡ Some y → slice_get (xs ++ ys) (length xs + i) ≡ Some y
on_the_right {Y} [] ys i y h = (let e : length {A = Y} [] + i ≡ i = omega arith in rw e h)
on_the_right (x ∷ xs) ys i y h = let e : length (x ∷ xs) + i ≡ suc (length xs + i) = omega arith in rw e (on_the_right xs ys i y h)

-- what many give: it breaks something exactly where something breaks of what one of them gives
module _ {X Y : Type 0} (breaks_of : Y → Breaks) (given : X → List Y) where
  pub flat_kept : (xs : List X) → IsKept (AnyBreaks (λ x. AnyBreaks breaks_of (given x)) xs) → IsKept (AnyBreaks breaks_of (flat_map given xs))
  flat_kept [] kept rule at b = absurd (let e : None ≡ Some b.one = b.there in cc)
  flat_kept (x ∷ xs) kept rule at b =
      elim (either (given x) (flat_map given xs) b.place b.one b.there) as (λ _. ⊥) [
        | inl h ↦ kept rule at (record { place = 0; one = x; there = refl; breaks = record { place = b.place; one = b.one; there = h; breaks = b.breaks } })
        | inr h ↦ flat_kept xs (λ r a c. kept r a (record { place = suc c.place; one = c.one; there = c.there; breaks = c.breaks })) rule at (record { place = h.0; one = b.one; there = h.1; breaks = b.breaks })
      ]

  flat_broken : (xs : List X) (i : ℕ) (x : X) → slice_get xs i ≡ Some x → (rule : PackageRule) (at : Span) → AnyBreaks breaks_of (given x) rule at → AnyBreaks breaks_of (flat_map given xs) rule at
  flat_broken [] i x there rule at b = absurd cc
  flat_broken (z ∷ xs) zero x there rule at b =
      record { place = b.place; one = b.one; there = on_the_left (given z) (flat_map given xs) b.place b.one (ap (λ (w : X). slice_get (given w) b.place) (same_Some z x there) ∙ b.there); breaks = b.breaks }
  flat_broken (z ∷ xs) (suc i) x there rule at b =
      let r = flat_broken xs i x there rule at b in
      record { place = length (given z) + r.place; one = r.one; there = on_the_right (given z) (flat_map given xs) r.place r.one r.there; breaks = r.breaks }

  pub flat_refused : (xs : List X) (fault : PackageFault) → IsFaultOf (AnyBreaks (λ x. AnyBreaks breaks_of (given x)) xs) fault → IsFaultOf (AnyBreaks breaks_of (flat_map given xs)) fault
  flat_refused xs = widened (AnyBreaks (λ x. AnyBreaks breaks_of (given x)) xs) (AnyBreaks breaks_of (flat_map given xs)) (λ rule at b. flat_broken xs b.place b.one b.there rule at b.breaks)

-- one alone
module _ {Y : Type 0} (breaks_of : Y → Breaks) (y : Y) where
  pub single_kept : IsKept (breaks_of y) → IsKept (AnyBreaks breaks_of (y ∷ []))
  single_kept kept rule at b = at_place b.place b.there
    where
      at_place : (i : ℕ) → slice_get (y ∷ []) i ≡ Some b.one → ⊥
      at_place zero e = kept rule at (subst (λ (z : Y). breaks_of z rule at) (sym (same_Some y b.one e)) b.breaks)
      at_place (suc i) e = absurd (let f : None ≡ Some b.one = e in cc)

  pub single_refused : (fault : PackageFault) → IsFaultOf (breaks_of y) fault → IsFaultOf (AnyBreaks breaks_of (y ∷ [])) fault
  single_refused = one_breaks breaks_of (y ∷ []) 0 y refl
