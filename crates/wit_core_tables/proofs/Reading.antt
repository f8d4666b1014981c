-- Names that stand for one more thing.
use Rattle.std.proofs.Common.{◌≡◌, ℕ, List, [], ◌∷◌, ◌++◌, ◌⊎◌, inl, inr, refl, sym, subst, ap, ◌∙◌, Option, Some, None, Bool, true, false}
use Rattle.std.specs.Prelude.{nat_eq, if◌then◌else◌}
use Rattle.std.specs.Cmp.{IsEquivalence}
use Rattle.std.specs.Map.{lookup}
use Rattle.std.proofs.lemmas.Bool.{eqb-true, eqb-false}
use Rattle.wit_core_tables.specs.declared.table.Meaning.{Meaning}
use Rattle.wit_core_tables.specs.declared.table.Meaning.TheVariants.{One, Ambiguous}
use Rattle.wit_core_tables.specs.Tables.{StandsFor, IsReadAs, IsTableOf, with_one}

module _ {K : Type 0} (eq : K → K → Bool) where
  -- ---- one more pair

  stands_more : (xs : List (K × ℕ)) (n : K × ℕ) (q : K) (i : ℕ) → StandsFor eq (xs ++ n ∷ []) q i → StandsFor eq xs q i ⊎ ((eq q n.0 ≡ true) × (n.1 ≡ i))
  stands_more [] n q i h = elim h as (λ _. StandsFor eq [] q i ⊎ ((eq q n.0 ≡ true) × (n.1 ≡ i))) [ inl here ↦ inr here | inr none ↦ absurd none ]
  stands_more (x ∷ xs) n q i h =
      elim h as (λ _. StandsFor eq (x ∷ xs) q i ⊎ ((eq q n.0 ≡ true) × (n.1 ≡ i))) [
        | inl here ↦ inl (inl here)
        | inr later ↦ elim (stands_more xs n q i later) as (λ _. StandsFor eq (x ∷ xs) q i ⊎ ((eq q n.0 ≡ true) × (n.1 ≡ i))) [ inl a ↦ inl (inr a) | inr b ↦ inr b ]
      ]

  stands_was : (xs : List (K × ℕ)) (n : K × ℕ) (q : K) (i : ℕ) → StandsFor eq xs q i → StandsFor eq (xs ++ n ∷ []) q i
  stands_was [] n q i h = absurd h
  stands_was (x ∷ xs) n q i h = elim h as (λ _. StandsFor eq (x ∷ xs ++ n ∷ []) q i) [ inl here ↦ inl here | inr later ↦ inr (stands_was xs n q i later) ]

  stands_new : (xs : List (K × ℕ)) (n : K × ℕ) (q : K) → eq q n.0 ≡ true → StandsFor eq (xs ++ n ∷ []) q n.1
  stands_new [] n q e = inl (e, refl)
  stands_new (x ∷ xs) n q e = inr (stands_new xs n q e)

  -- a name that is its own
  same_step : (xs : List (K × ℕ)) (n : K × ℕ) (q : K) (m : Option Meaning) → eq q n.0 ≡ true → IsReadAs eq xs q m → IsReadAs eq (xs ++ n ∷ []) q (Some (with_one m n.1))
  same_step xs n q None e h = (stands_new xs n q e, λ j s. elim (stands_more xs n q j s) as (λ _. j ≡ n.1) [ inl was ↦ absurd (h j was) | inr new ↦ sym new.1 ])
  same_step xs n q (Some Ambiguous) e h = (h.0, h.1, stands_was xs n q h.0 h.2, stands_was xs n q h.1 h.3, h.4)
  same_step xs n q (Some (One i)) e h = by_test (nat_eq i n.1) refl
    where
      by_test : (b : Bool) → nat_eq i n.1 ≡ b → IsReadAs eq (xs ++ n ∷ []) q (Some (if b then One n.1 else Ambiguous))
      by_test true t =
          (stands_new xs n q e, λ j s. elim (stands_more xs n q j s) as (λ _. j ≡ n.1) [ inl was ↦ h.1 j was ∙ eqb-true i n.1 t | inr new ↦ sym new.1 ])
      by_test false t = (i, n.1, stands_was xs n q i h.0, stands_new xs n q e, eqb-false i n.1 t)

  -- another name
  other_step : (xs : List (K × ℕ)) (n : K × ℕ) (q : K) (m : Option Meaning) → (eq q n.0 ≡ true → ⊥) → IsReadAs eq xs q m → IsReadAs eq (xs ++ n ∷ []) q m
  other_step xs n q None ne h = λ i s. elim (stands_more xs n q i s) as (λ _. ⊥) [ inl was ↦ h i was | inr new ↦ ne new.0 ]
  other_step xs n q (Some Ambiguous) ne h = (h.0, h.1, stands_was xs n q h.0 h.2, stands_was xs n q h.1 h.3, h.4)
  other_step xs n q (Some (One i)) ne h = (stands_was xs n q i h.0, λ j s. elim (stands_more xs n q j s) as (λ _. j ≡ i) [ inl was ↦ h.1 j was | inr new ↦ absurd (ne new.0) ])

  -- ---- look-ups of names that are one

  lookup_alike : (f g : K → Bool) (es : List (K × Meaning)) → ((y : K) → f y ≡ g y) → lookup f es ≡ lookup g es
  lookup_alike f g [] same = refl
  lookup_alike f g (e ∷ es) same =
      ap (λ (b : Bool). if b then Some e.1 else lookup f es) (same e.0) ∙ ap (λ (o : Option Meaning). if g e.0 then Some e.1 else o) (lookup_alike f g es same)

  module _ (laws : IsEquivalence eq) where
    pub next_table : (xs : List (K × ℕ)) (k : K) (i : ℕ) (old new : List (K × Meaning)) (m : Meaning) → m ≡ with_one (lookup (eq k) old) i
        → ((q : K) → lookup (eq q) new ≡ (if eq k q then Some m else lookup (eq q) old)) → IsTableOf eq xs old → IsTableOf eq (xs ++ (k, i) ∷ []) new
    next_table xs k i old new m is updated t q = subst (IsReadAs eq (xs ++ (k, i) ∷ []) q) (sym (updated q)) (by_test (eq k q) refl)
      where
        by_test : (b : Bool) → eq k q ≡ b → IsReadAs eq (xs ++ (k, i) ∷ []) q (if b then Some m else lookup (eq q) old)
        by_test true e =
            let one : lookup (eq k) old ≡ lookup (eq q) old = lookup_alike (eq k) (eq q) old (λ y. laws.congr k q y e) in
            subst (λ (n : Meaning). IsReadAs eq (xs ++ (k, i) ∷ []) q (Some n)) (sym (is ∙ ap (λ (o : Option Meaning). with_one o i) one)) (same_step xs (k, i) q (lookup (eq q) old) (laws.symm q k ∙ e) (t q))
        by_test false e =
            other_step xs (k, i) q (lookup (eq q) old) (λ y. let differ : true ≡ false = sym y ∙ laws.symm q k ∙ e in absurd cc) (t q)
