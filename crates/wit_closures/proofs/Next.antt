-- What is kept where one more interface is added.
use Rattle.std.proofs.Common.{◌≡◌, ℕ, zero, suc, ◌<◌, ◌≤◌, ◌↔◌, List, [], ◌∷◌, ◌++◌, ◌⊎◌, inl, inr, Some, Ok, Err, OnOk, OnErr, refl, sym, subst, ap, arith, length, get_or, take}
use Rattle.std.specs.Prelude.{slice_get}
use Rattle.std.specs.declared.result.Result.{Result}
use Rattle.wit_order.specs.Order.{Has}
use Rattle.wit_order.proofs.Lists.{has_more, has_was, has_last}
use Rattle.wit_reach.specs.Paths.{AreRising}
use Rattle.wit_reach.proofs.Lists.{rising_append}
use Rattle.wit_closures.specs.Closures.{IsBelow, IsNext, IsClosed, AreClosed}

-- ---- what stands at a place

pub get_more : (xs : List (List ℕ)) (c : List ℕ) (i : ℕ) (x : List ℕ) → slice_get (xs ++ c ∷ []) i ≡ Some x → (slice_get xs i ≡ Some x) ⊎ ((i ≡ length xs) × (x ≡ c))
get_more [] c zero x e = inr (refl, cc)
get_more [] c (suc i) x e = absurd cc
get_more (y ∷ xs) c zero x e = inl e
get_more (y ∷ xs) c (suc i) x e = elim (get_more xs c i x e) as (λ _. (slice_get (y ∷ xs) (suc i) ≡ Some x) ⊎ ((suc i ≡ length (y ∷ xs)) × (x ≡ c))) [ inl was ↦ inl was | inr last ↦ inr (ap suc last.0, last.1) ]

pub single : (xs : List ℕ) (x : ℕ) → 1 ≤ length xs → length xs < 2 → x ≡ get_or xs 0 x → xs ≡ x ∷ []
single [] x some one e = absurd (omega arith)
single (y ∷ []) x some one e = ap (λ (z : ℕ). z ∷ []) (sym e)
single (y ∷ z ∷ xs) x some one e = absurd (omega arith)

-- ---- all of them

abbrev pub AreThere : List (List ℕ) → List ℕ → Type 0
AreThere ls deps = (d : ℕ) → Has deps d → d < length ls

below_small : (ls : List (List ℕ)) (deps : List ℕ) → AreClosed ls → AreThere ls deps → (j : ℕ) → IsBelow ls deps j → j < length ls
below_small ls deps closed there j b =
    let l : b.0 < length ls = there b.0 b.1 in
    let w : j ≤ b.0 = (closed b.0 b.2.0 b.2.1).within j b.2.2 in
    omega (arith, l, w)

next_closed : (ls : List (List ℕ)) (deps c : List ℕ) → AreClosed ls → AreThere ls deps → IsNext ls deps c → IsClosed (length ls) c
next_closed ls deps c closed there next = record {
  rising = next.rising;
  within = λ j h. elim (next.only j h) as (λ _. j ≤ length ls) [
    | inl here ↦ omega (arith, here)
    | inr below ↦ (let l : j < length ls = below_small ls deps closed there j below in omega (arith, l))
  ];
}

pub closed_next : (ls new : List (List ℕ)) (deps c : List ℕ) → AreClosed ls → AreThere ls deps → IsNext ls deps c → new ≡ ls ++ c ∷ [] → AreClosed new
closed_next ls new deps c closed there next is i x at =
    elim (get_more ls c i x (subst (λ (l : List (List ℕ)). slice_get l i ≡ Some x) is at)) as (λ _. IsClosed i x) [
      | inl was ↦ closed i x was
      | inr last ↦ subst (λ (k : ℕ). IsClosed k x) (sym last.0) (subst (IsClosed (length ls)) (sym last.1) (next_closed ls deps c closed there next))
    ]

-- ---- the next one

below_next : (ls : List (List ℕ)) (deps found : List ℕ) → AreClosed ls → AreThere ls deps → AreRising found → ((j : ℕ) → Has found j ↔ IsBelow ls deps j) → IsNext ls deps (found ++ length ls ∷ [])
below_next ls deps found closed there rising same = record {
  rising = rising_append found (length ls) rising (λ j h. below_small ls deps closed there j ((same j).0 h));
  itself = has_last found (length ls);
  all = λ j b. has_was found (length ls ∷ []) j ((same j).1 b);
  only = λ j h. elim (has_more found (length ls) j h) as (λ _. (j ≡ length ls) ⊎ IsBelow ls deps j) [ inl last ↦ inl last | inr was ↦ inr ((same j).0 was) ];
}

-- what one reaches is what its list has
single_same : (ls : List (List ℕ)) (dep : ℕ) (list : List ℕ) → slice_get ls dep ≡ Some list → (j : ℕ) → Has list j ↔ IsBelow ls (dep ∷ []) j
single_same ls dep list at j = (
  (λ h. (dep, inl refl, (list, at, h))),
  (λ b. elim b.1 as (λ _. Has list j) [
    | inl here ↦ subst (λ (l : List ℕ). Has l j) (let e : slice_get ls b.0 ≡ Some b.2.0 = b.2.1 in cc) b.2.2
    | inr none ↦ absurd none
  ]),
)

abbrev pub IsPushed : List (List ℕ) → List (List ℕ) → List ℕ → Type 0
IsPushed ls new deps = (c : List ℕ) × IsNext ls deps c × (new ≡ ls ++ c ∷ [])

pub pushed_one : (v ls new : List (List ℕ)) (deps : List ℕ) (dep index id : ℕ) → ls ≡ v → AreClosed ls → deps ≡ dep ∷ [] → AreThere v deps → index ≡ dep → id ≡ length ls
    → (list : List ℕ) × (slice_get ls index ≡ Some list) × (new ≡ ls ++ (list ++ id ∷ []) ∷ [])
    → IsPushed v new deps
pushed_one v ls new deps dep index id view closed one there at last pushed =
    let there2 : AreThere ls (dep ∷ []) = λ d h. subst (λ (l : List (List ℕ)). d < length l) (sym view) (there d (subst (λ (ds : List ℕ). Has ds d) (sym one) h)) in
    let got : slice_get ls dep ≡ Some pushed.0 = subst (λ (k : ℕ). slice_get ls k ≡ Some pushed.0) at pushed.1 in
    let next : IsNext ls (dep ∷ []) (pushed.0 ++ length ls ∷ []) = below_next ls (dep ∷ []) pushed.0 closed there2 (closed dep pushed.0 got).rising (single_same ls dep pushed.0 got) in (
      pushed.0 ++ id ∷ [],
      subst (λ (k : ℕ). IsNext v deps (pushed.0 ++ k ∷ [])) (sym last) (subst (λ (l : List (List ℕ)). IsNext l deps (pushed.0 ++ length ls ∷ [])) view (subst (λ (ds : List ℕ). IsNext ls ds (pushed.0 ++ length ls ∷ [])) (sym one) next)),
      subst (λ (l : List (List ℕ)). new ≡ l ++ (pushed.0 ++ id ∷ []) ∷ []) view pushed.2,
    )

pub pushed_more : (v ls new : List (List ℕ)) (deps found list : List ℕ) (id : ℕ) → ls ≡ v → AreClosed ls → AreThere v deps → AreRising found → ((j : ℕ) → Has found j ↔ IsBelow ls deps j) → list ≡ found → id ≡ length ls
    → new ≡ ls ++ (list ++ id ∷ []) ∷ []
    → IsPushed v new deps
pushed_more v ls new deps found list id view closed there rising same is last pushed =
    let there2 : AreThere ls deps = λ d h. subst (λ (l : List (List ℕ)). d < length l) (sym view) (there d h) in
    let next : IsNext ls deps (found ++ length ls ∷ []) = below_next ls deps found closed there2 rising same in (
      list ++ id ∷ [],
      subst (λ (k : ℕ). IsNext v deps (list ++ k ∷ [])) (sym last) (subst (λ (xs : List ℕ). IsNext v deps (xs ++ length ls ∷ [])) (sym is) (subst (λ (l : List (List ℕ)). IsNext l deps (found ++ length ls ∷ [])) view next)),
      subst (λ (l : List (List ℕ)). new ≡ l ++ (list ++ id ∷ []) ∷ []) view pushed,
    )

-- ---- either way

pub either : {X E : Type 0} (r : Result X E) (P Q R : Type 0) → (P → R) → (Q → R) → OnOk r P → OnErr r Q → R
either {X} {E} (Ok x) P Q R f g p q = f p
either {X} {E} (Err e) P Q R f g p q = g q

-- after either way they are as they should be
pub closed_after : {X E : Type 0} (r : Result X E) (v ls new : List (List ℕ)) (deps : List ℕ) → ls ≡ v → AreClosed ls → AreThere v deps
    → OnOk r (IsPushed v new deps) → OnErr r (new ≡ ls) → AreClosed new
closed_after {X} {E} r v ls new deps view closed there ok err =
    either r (IsPushed v new deps) (new ≡ ls) (AreClosed new)
    (λ p. closed_next v new deps p.0 (subst AreClosed view closed) there p.1 p.2)
    (λ e. subst AreClosed (sym e) closed)
    ok err

-- ---- the first ones

get_taken : (ls : List (List ℕ)) (n i : ℕ) (c : List ℕ) → slice_get (take n ls) i ≡ Some c → slice_get ls i ≡ Some c
get_taken ls zero i c e = absurd cc
get_taken [] (suc n) i c e = absurd cc
get_taken (x ∷ ls) (suc n) zero c e = e
get_taken (x ∷ ls) (suc n) (suc i) c e = get_taken ls n i c e

pub closed_taken : (ls new : List (List ℕ)) (n : ℕ) → AreClosed ls → new ≡ take n ls → AreClosed new
closed_taken ls new n closed is i c at = closed i c (get_taken ls n i c (subst (λ (l : List (List ℕ)). slice_get l i ≡ Some c) is at))
