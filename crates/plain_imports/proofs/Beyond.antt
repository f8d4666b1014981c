-- Core imports that are read.
use Rattle.std.proofs.Common.{◌≡◌, ◌<◌, ◌≤◌, ◌+◌, ◌⊎◌, ℕ, zero, suc, true, false, List, [], ◌∷◌, Any, Option, Some, None, map, drop, length, get_or, refl, sym, ap, subst, ◌∙◌, add-one, arith, inl, inr}
use Rattle.std.specs.Prelude.{slice_get}
use Rattle.std.proofs.lemmas.Option.{same_Some, slice_get_within}
use Rattle.wasm_types.specs.Entries.{ImportValue}
use Rattle.wit_core_items.specs.World.{core_imports, ImportStandsFor, IsReadAs}
use Rattle.wit_core_names.specs.Items.{CoreImport}
use Rattle.wit_core_names.specs.Texts.{Known}
use Rattle.wit_core_tables.specs.declared.table.Meaning.{Meaning}
use Rattle.wit_core_tables.specs.declared.table.Meaning.TheVariants.{One, Ambiguous}
use Rattle.wit_types.specs.declared.world.World.{World}
use Rattle.plain_imports.specs.Imports.{IsBeyond, is_own}

-- ---- one import

module _ (k : Known) (w : World) (names : List (List ℕ)) (i : ImportValue) where
  abbrev Stands : ℕ → Type 0
  Stands j = ImportStandsFor k w true i.place i.name j

  pub stands_within : (j : ℕ) → Stands j → j < length (core_imports k w)
  stands_within j (x, at, named) = omega (arith, slice_get_within (core_imports k w) j x at)

  pub nothing_fits : (found : Option Meaning) → IsReadAs Stands found → found ≡ None → IsBeyond k w names i → ⊥
  nothing_fits found read none (IsBeyond.other j x stands at isnt) = read.none none j stands
  nothing_fits found read none (IsBeyond.two j l one other apart) = read.none none j one

  pub one_fits : (found : Option Meaning) (j : ℕ) (x : CoreImport) → IsReadAs Stands found → found ≡ Some (One j) → slice_get (core_imports k w) j ≡ Some x → is_own names x ≡ true → IsBeyond k w names i → ⊥
  one_fits found j x read one at own (IsBeyond.other l y stands there isnt) =
      let same : l ≡ j = (read.one j one).1 l stands in
      let thing : x ≡ y = same_Some x y (sym at ∙ ap (slice_get (core_imports k w)) (sym same) ∙ there) in
      let bad : is_own names y ≡ true = ap (is_own names) (sym thing) ∙ own in
      absurd cc
  one_fits found j x read one at own (IsBeyond.two l m first second apart) = apart ((read.one j one).1 l first ∙ sym ((read.one j one).1 m second))

  pub other_is_beyond : (found : Option Meaning) (j : ℕ) (x : CoreImport) → IsReadAs Stands found → found ≡ Some (One j) → slice_get (core_imports k w) j ≡ Some x → is_own names x ≡ false → IsBeyond k w names i
  other_is_beyond found j x read one at isnt = IsBeyond.other j x (read.one j one).0 at isnt

  pub two_are_beyond : (found : Option Meaning) → IsReadAs Stands found → found ≡ Some Ambiguous → IsBeyond k w names i
  two_are_beyond found read several = let (j, l, one, other, apart) = read.several several in IsBeyond.two j l one other apart

-- ---- all imports

module _ {Y : Type 0} (P : Y → Type 0) where
  abbrev pub SomeOf : List Y → Type 0
  SomeOf [] = ⊥
  SomeOf (y ∷ ys) = P y ⊎ SomeOf ys

  pub some_of : (ys : List Y) → Any P ys → SomeOf ys
  some_of [] (k, y, lt, at, p) = absurd (omega (arith, lt))
  some_of (x ∷ ys) (zero, y, lt, at, p) = inl (subst P (sym at) p)
  some_of (x ∷ ys) (suc k, y, lt, at, p) = inr (some_of ys (k, y, omega (arith, lt), at, p))

  any_of : (ys : List Y) → SomeOf ys → Any P ys
  any_of [] h = absurd h
  any_of (y ∷ ys) (inl p) = (zero, y, omega arith, refl, p)
  any_of (y ∷ ys) (inr h) = let (k, x, lt, at, p) = any_of ys h in (suc k, x, omega (arith, lt), at, p)

module _ {X Y : Type 0} (f : X → Y) (P : Y → Type 0) where
  here : (xs : List X) (i : ℕ) (d : X) → i < length xs → P (f (get_or xs i d)) → SomeOf P (map f xs)
  here [] i d lt p = absurd (omega (arith, lt))
  here (y ∷ xs) zero d lt p = inl p
  here (y ∷ xs) (suc i) d lt p = inr (here xs i d (omega (arith, lt)) p)

  pub any_here : (xs : List X) (i : ℕ) (d : X) → i < length xs → P (f (get_or xs i d)) → Any P (map f xs)
  any_here xs i d lt p = any_of P (map f xs) (here xs i d lt p)

  -- where the next isn't, one of the rest is behind it
  pub some_later : (xs : List X) (i : ℕ) (d : X) → i < length xs → (P (f (get_or xs i d)) → ⊥) → SomeOf P (map f (drop i xs)) → SomeOf P (map f (drop (i + 1) xs))
  some_later xs i d lt none h = subst (λ (n : ℕ). SomeOf P (map f (drop n xs))) (sym (add-one i)) (behind xs i lt none h)
    where
      behind : (ys : List X) (j : ℕ) → j < length ys → (P (f (get_or ys j d)) → ⊥) → SomeOf P (map f (drop j ys)) → SomeOf P (map f (drop (suc j) ys))
      behind [] j lt fails h = absurd (omega (arith, lt))
      behind (y ∷ ys) zero lt fails h = elim h as (λ _. SomeOf P (map f ys)) [ inl this ↦ absurd (fails this) | inr later ↦ later ]
      behind (y ∷ ys) (suc j) lt fails h = behind ys j (omega (arith, lt)) fails h

  pub none_left : (xs : List X) (i : ℕ) → length xs ≤ i → SomeOf P (map f (drop i xs)) → ⊥
  none_left [] zero lt h = h
  none_left [] (suc i) lt h = h
  none_left (x ∷ xs) zero lt h = absurd (omega (arith, lt))
  none_left (x ∷ xs) (suc i) lt h = none_left xs i (omega (arith, lt)) h
