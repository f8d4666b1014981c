-- Tables of names that grow.
use Rattle.std.proofs.Common.{sym, ◌∙◌, ap, arith, slice_get, length, ◌<◌, ◌≤◌, ◌+◌, ◌≡◌, ◌⊎◌, inl, inr, ℕ, Bool, true, List, [], ◌∷◌, ◌++◌, Option, Some, None, subst}
use Rattle.std.proofs.lemmas.Bool.{cases_lt}
use Rattle.std.proofs.lemmas.Option.{same_Some, slice_get_within}
use Rattle.std.specs.Prelude.{◌↔◌}
use Rattle.wit_core_tables.specs.Tables as table
use Rattle.wit_core_tables.specs.Tables.{StandsFor, IsTableOf}
use Rattle.wit_core_tables.specs.declared.table.Meaning.{Meaning}
use Rattle.wit_core_tables.specs.declared.table.Meaning.TheVariants.{One, Ambiguous}
use Rattle.wit_core_items.specs.World.{IsReadAs}
use Rattle.wit_core_items.specs.Growing.{Reads, Grows}

pub below_or_at : (i n : ℕ) → i < n + 1 → (i < n) ⊎ (i ≡ n)
below_or_at i n less = elim (cases_lt i n) as (λ _. (i < n) ⊎ (i ≡ n)) [ inl before ↦ inl before | inr past ↦ inr (omega (arith, less, past)) ]

module _ {K : Type 0} (eq : K → K → Bool) where
  -- ---- one pair more

  abbrev Here : K → ℕ → K → ℕ → Type 0
  Here k place q i = (eq q k ≡ true) × (place ≡ i)

  stands_more : (xs : List (K × ℕ)) (k : K) (place : ℕ) (q : K) (i : ℕ) → StandsFor eq (xs ++ (k, place) ∷ []) q i → StandsFor eq xs q i ⊎ Here k place q i
  stands_more [] k place q i h = elim h as (λ _. StandsFor eq [] q i ⊎ Here k place q i) [ inl here ↦ inr here | inr none ↦ absurd none ]
  stands_more (x ∷ xs) k place q i h =
      elim h as (λ _. StandsFor eq (x ∷ xs) q i ⊎ Here k place q i) [
        | inl here ↦ inl (inl here)
        | inr later ↦ elim (stands_more xs k place q i later) as (λ _. StandsFor eq (x ∷ xs) q i ⊎ Here k place q i) [ inl a ↦ inl (inr a) | inr b ↦ inr b ]
      ]

  stands_still : (xs : List (K × ℕ)) (k : K) (place : ℕ) (q : K) (i : ℕ) → StandsFor eq xs q i ⊎ Here k place q i → StandsFor eq (xs ++ (k, place) ∷ []) q i
  stands_still [] k place q i h = elim h as (λ _. StandsFor eq ((k, place) ∷ []) q i) [ inl none ↦ absurd none | inr here ↦ inl here ]
  stands_still (x ∷ xs) k place q i h =
      elim h as (λ _. StandsFor eq (x ∷ xs ++ (k, place) ∷ []) q i) [
        | inl was ↦ elim was as (λ _. StandsFor eq (x ∷ xs ++ (k, place) ∷ []) q i) [ inl first ↦ inl first | inr later ↦ inr (stands_still xs k place q i (inl later)) ]
        | inr here ↦ inr (stands_still xs k place q i (inr here))
      ]

  -- ---- tables that grow

  pub grows_none : (P : K → ℕ → Type 0) (t : List (K × Meaning)) → ((q : K) (i : ℕ) → P q i → ⊥) → Grows eq P t t
  grows_none P t none = λ named is. (named, is, λ q i. (λ h. inl h, λ h. elim h as (λ _. StandsFor eq named q i) [ inl was ↦ was | inr now ↦ absurd (none q i now) ]))

  pub grows_one : (P : K → ℕ → Type 0) (old new : List (K × Meaning)) (k : K) (place : ℕ) → ((named : List (K × ℕ)) → IsTableOf eq named old → IsTableOf eq (named ++ (k, place) ∷ []) new) → ((q : K) (i : ℕ) → Here k place q i ↔ P q i) → Grows eq P old new
  grows_one P old new k place grown same = λ named is. (
    named ++ (k, place) ∷ [],
    grown named is,
    λ q i. (
      λ h. elim (stands_more named k place q i h) as (λ _. StandsFor eq named q i ⊎ P q i) [ inl was ↦ inl was | inr here ↦ inr ((same q i).0 here) ],
      λ h. stands_still named k place q i (elim h as (λ _. StandsFor eq named q i ⊎ Here k place q i) [ inl was ↦ inl was | inr now ↦ inr ((same q i).1 now) ]),
    ),
  )

  pub grows_then : (P Q R : K → ℕ → Type 0) (a b c : List (K × Meaning)) → Grows eq P a b → Grows eq Q b c → ((q : K) (i : ℕ) → (P q i ⊎ Q q i) ↔ R q i) → Grows eq R a c
  grows_then P Q R a b c one two same = λ named is.
      let (mid, is_mid, at_mid) = one named is in
      let (all, is_all, at_all) = two mid is_mid in (
        all,
        is_all,
        λ q i. (
          λ h. elim ((at_all q i).0 h) as (λ _. StandsFor eq named q i ⊎ R q i) [
            | inl was ↦ elim ((at_mid q i).0 was) as (λ _. StandsFor eq named q i ⊎ R q i) [ inl first ↦ inl first | inr p ↦ inr ((same q i).0 (inl p)) ]
            | inr q2 ↦ inr ((same q i).0 (inr q2))
          ],
          λ h. elim h as (λ _. StandsFor eq all q i) [
            | inl first ↦ (at_all q i).1 (inl ((at_mid q i).1 (inl first)))
            | inr r ↦ elim ((same q i).1 r) as (λ _. StandsFor eq all q i) [ inl p ↦ (at_all q i).1 (inl ((at_mid q i).1 (inr p))) | inr q2 ↦ (at_all q i).1 (inr q2) ]
          ],
        ),
      )

  -- ---- what is read

  pub reads_none : (P : K → ℕ → Type 0) (t : List (K × Meaning)) → IsTableOf eq [] t → ((q : K) (i : ℕ) → P q i → ⊥) → Reads eq P t
  reads_none P t is none = ([], is, λ q i. (λ h. absurd h, λ h. absurd (none q i h)))

  pub reads_grows : (P Q R : K → ℕ → Type 0) (a b : List (K × Meaning)) → Reads eq P a → Grows eq Q a b → ((q : K) (i : ℕ) → (P q i ⊎ Q q i) ↔ R q i) → Reads eq R b
  reads_grows P Q R a b one two same =
      let (mid, is_mid, at_mid) = one in
      let (all, is_all, at_all) = two mid is_mid in (
        all,
        is_all,
        λ q i. (
          λ h. elim ((at_all q i).0 h) as (λ _. R q i) [ inl was ↦ (same q i).0 (inl ((at_mid q i).0 was)) | inr q2 ↦ (same q i).0 (inr q2) ],
          λ r. elim ((same q i).1 r) as (λ _. StandsFor eq all q i) [ inl p ↦ (at_all q i).1 (inl ((at_mid q i).1 p)) | inr q2 ↦ (at_all q i).1 (inr q2) ],
        ),
      )

  pub reads_same : (P Q : K → ℕ → Type 0) (t : List (K × Meaning)) → Reads eq P t → ((q : K) (i : ℕ) → P q i ↔ Q q i) → Reads eq Q t
  reads_same P Q t one same = let (named, is, at) = one in (named, is, λ q i. (λ h. (same q i).0 ((at q i).0 h), λ h. (at q i).1 ((same q i).1 h)))

  pub reads_read : (P : K → ℕ → Type 0) (t : List (K × Meaning)) (q : K) (found : Option Meaning) → Reads eq P t → ((named : List (K × ℕ)) → IsTableOf eq named t → table.IsReadAs eq named q found) → IsReadAs (P q) found
  reads_read P t q found one get = let (named, is, at) = one in read named at found (get named is)
    where
      read : (named : List (K × ℕ)) → ((q : K) (i : ℕ) → StandsFor eq named q i ↔ P q i) → (found : Option Meaning) → table.IsReadAs eq named q found → IsReadAs (P q) found
      read named at None is = record { none = λ _ i h. is i ((at q i).1 h); one = λ i e. (let differ : None ≡ Some (One i) = e in absurd cc); several = λ e. (let differ : None ≡ Some Ambiguous = e in absurd cc) }
      read named at (Some (One i)) is = record {
        none = λ e. (let differ : Some (One i) ≡ None = e in absurd cc);
        one = λ j e. (let same : i ≡ j = cc in subst (λ (n : ℕ). P q n × ((m : ℕ) → P q m → m ≡ n)) same ((at q i).0 is.0, λ m h. is.1 m ((at q m).1 h)));
        several = λ e. (let differ : Some (One i) ≡ Some Ambiguous = e in absurd cc);
      }
      read named at (Some Ambiguous) is = record {
        none = λ e. (let differ : Some Ambiguous ≡ None = e in absurd cc);
        one = λ i e. (let differ : Some Ambiguous ≡ Some (One i) = e in absurd cc);
        several = λ _. (is.0, is.1, (at q is.0).0 is.2, (at q is.1).0 is.3, is.4);
      }

  -- ---- what stands for the elements of a list, by their places

  module _ {X : Type 0} (xs : List X) (Names : X → K → Type 0) where
    abbrev pub Upto : ℕ → K → ℕ → Type 0
    Upto n q i = (i < n) × ((x : X) × (slice_get xs i ≡ Some x) × Names x q)

    pub reads_first : (t : List (K × Meaning)) → IsTableOf eq [] t → Reads eq (Upto 0) t
    reads_first t is = reads_none (Upto 0) t is (λ q i h. absurd (omega (arith, h.0)))

    pub reads_next : (n : ℕ) (x : X) (a b : List (K × Meaning)) → slice_get xs n ≡ Some x → Reads eq (Upto n) a → Grows eq (λ q i. (i ≡ n) × Names x q) a b → Reads eq (Upto (n + 1)) b
    reads_next n x a b at one two = reads_grows (Upto n) (λ q i. (i ≡ n) × Names x q) (Upto (n + 1)) a b one two (λ q i. (onward q i, back q i))
      where
        onward : (q : K) (i : ℕ) → Upto n q i ⊎ ((i ≡ n) × Names x q) → Upto (n + 1) q i
        onward q i h = elim h as (λ _. Upto (n + 1) q i) [
          | inl (less, was) ↦ (omega (arith, less), was)
          | inr (here, is) ↦ (omega (arith, here), (x, ap (λ (m : ℕ). slice_get xs m) here ∙ at, is))
        ]

        back : (q : K) (i : ℕ) → Upto (n + 1) q i → Upto n q i ⊎ ((i ≡ n) × Names x q)
        back q i (less, (y, at_y, is)) = elim (below_or_at i n less) as (λ _. Upto n q i ⊎ ((i ≡ n) × Names x q)) [
          | inl before ↦ inl (before, (y, at_y, is))
          | inr here ↦ (let same : y ≡ x = same_Some y x (sym at_y ∙ ap (λ (m : ℕ). slice_get xs m) here ∙ at) in inr (here, subst (λ (z : X). Names z q) same is))
        ]

    pub reads_all : (n : ℕ) (t : List (K × Meaning)) → length xs ≤ n → Reads eq (Upto n) t → Reads eq (λ q i. (x : X) × (slice_get xs i ≡ Some x) × Names x q) t
    reads_all n t long one = reads_same (Upto n) (λ q i. (x : X) × (slice_get xs i ≡ Some x) × Names x q) t one (λ q i. (λ h. h.1, λ h. (let within = slice_get_within xs i h.0 h.1 in let less : i < n = omega (arith, within, long) in (less, h))))
