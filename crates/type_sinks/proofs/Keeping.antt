-- What is remembered of types, one after the other.
use Rattle.std.proofs.Common.{◌≡◌, ℕ, ◌+◌, ◌<◌, List, [], ◌∷◌, ◌++◌, length, take, get_or, Option, Some, Bool, true, false, refl, sym, ap, subst, ◌∙◌, inl, inr}
use Rattle.std.specs.Prelude.{nat_eq, if◌then◌else◌, ◌||◌}
use Rattle.std.specs.List.{AllByRecursion as Each, list_any}
use Rattle.std.proofs.lemmas.List.Folds.{list_any-append}
use Rattle.std.proofs.lemmas.Bool.{cases_Bool, eqb-true, eq-eqb}
use Rattle.type_writing.specs.Writing.{remembering}
use Rattle.type_writing.proofs.Standing.{taken_next}
use Rattle.type_sinks.specs.Kept.{AreKept}

pub each_keeps : {X : Type 0} (P Q : X → Type 0) (xs : List X) → ((x : X) → P x → Q x) → Each P xs → Each Q xs
each_keeps P Q [] f h = tt
each_keeps P Q (x ∷ xs) f h = (f x h.0, each_keeps P Q xs f h.1)

pub each_push : {X : Type 0} (P : X → Type 0) (xs : List X) (x : X) → Each P xs → P x → Each P (xs ++ x ∷ [])
each_push P [] x h p = (p, tt)
each_push P (y ∷ xs) x h p = (h.0, each_push P xs x h.1 p)

pub each_append : {X : Type 0} (P : X → Type 0) (xs ys : List X) → Each P xs → Each P ys → Each P (xs ++ ys)
each_append P [] ys h k = k
each_append P (x ∷ xs) ys h k = (h.0, each_append P xs ys h.1 k)

either : (a b : Bool) → (a || b) ≡ false → (a ≡ false) × (b ≡ false)
either true b h = absurd cc
either false b h = (refl, h)

swapped : (a b : ℕ) → nat_eq a b ≡ false → nat_eq b a ≡ false
swapped a b h = elim (cases_Bool (nat_eq b a)) [
  | inl e ↦ let k : true ≡ false = sym (eq-eqb a b (sym (eqb-true b a e))) ∙ h in absurd cc
  | inr e ↦ e
]

-- what is remembered of others stays
pub others_stay : (table : ℕ → Option ℕ) (id index k : ℕ) → nat_eq k id ≡ false → remembering table id index k ≡ table k
others_stay table id index k h = ap (λ (b : Bool). if b then Some index else table k) (swapped k id h)

pub one_here : (table : ℕ → Option ℕ) (id index k : ℕ) → id ≡ k → remembering table id index k ≡ Some index
one_here table id index k e = ap (λ (b : Bool). if b then Some index else table k) (eq-eqb id k e)

kept_push : (old mid new : ℕ → Option ℕ) (ids : List ℕ) (id index : ℕ) → AreKept old mid ids index → ((k : ℕ) → new k ≡ remembering mid id index k) → AreKept old new (ids ++ id ∷ []) index
kept_push old mid new ids id index all one =
    let keeps : (x : ℕ) → mid x ≡ Some index → new x ≡ Some index = λ x h. elim (cases_Bool (nat_eq x id)) [
      | inl b ↦ one x ∙ one_here mid id index x (sym (eqb-true x id b))
      | inr b ↦ one x ∙ others_stay mid id index x b ∙ h
    ] in
    record {
      here = each_push (λ x. new x ≡ Some index) ids id (each_keeps (λ x. mid x ≡ Some index) (λ x. new x ≡ Some index) ids keeps all.here) (one id ∙ one_here mid id index id refl);
      others = λ k h.
          let parts = either (list_any (nat_eq k) ids) (list_any (nat_eq k) (id ∷ [])) (sym (list_any-append (nat_eq k) ids (id ∷ [])) ∙ h) in
          one k ∙ others_stay mid id index k (either (nat_eq k id) false parts.1).0 ∙ all.others k parts.0;
    }

pub kept_next : (old mid new : ℕ → Option ℕ) (ids : List ℕ) (i id index : ℕ) → i < length ids → id ≡ get_or ids i id → AreKept old mid (take i ids) index → ((k : ℕ) → new k ≡ remembering mid id index k) → AreKept old new (take (i + 1) ids) index
kept_next old mid new ids i id index lt here all one = subst (λ l. AreKept old new l index) (taken_next ids i id lt here) (kept_push old mid new (take i ids) id index all one)

pub kept_none : (old : ℕ → Option ℕ) (index : ℕ) → AreKept old old [] index
kept_none old index = record { here = tt; others = λ k h. refl }

pub each_at : (P : ℕ → Type 0) (ids : List ℕ) (id : ℕ) → list_any (nat_eq id) ids ≡ true → Each P ids → P id
each_at P [] id h e = absurd cc
each_at P (x ∷ ids) id h e = elim (cases_Bool (nat_eq id x)) [
  | inl b ↦ subst P (sym (eqb-true id x b)) e.0
  | inr b ↦ each_at P ids id (rw b at h) e.1
]

-- what is remembered of a type was there before, unless it is one of these
pub kept_cases : (P : ℕ → ℕ → Type 0) (old new : ℕ → Option ℕ) (ids : List ℕ) (index id k : ℕ) → AreKept old new ids index → new id ≡ Some k → Each (λ x. P x index) ids → ((x : ℕ) → old id ≡ Some x → P id x) → P id k
kept_cases P old new ids index id k kept h each before = elim (cases_Bool (list_any (nat_eq id) ids)) [
  | inl b ↦
      let there = each_at (λ x. new x ≡ Some index) ids id b kept.here in
      let both : Some index ≡ Some k = sym there ∙ h in
      let same : index ≡ k = cc in
      subst (P id) same (each_at (λ x. P x index) ids id b each)
  | inr b ↦ before k (sym (kept.others id b) ∙ h)
]
