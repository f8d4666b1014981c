-- What a walk from needed types reaches, and which of it is the interface's.
use Rattle.std.proofs.Common.{◌≡◌, ◌⊎◌, ◌<◌, ℕ, zero, suc, List, [], ◌∷◌, ◌++◌, length, true, false, refl, sym, ap, subst, ◌∙◌, arith, inl, inr}
use Rattle.std.specs.Prelude.{flat_map, nat_eq, IfOk, Result, Ok, Err, Vec}
use Rattle.std.specs.declared.alloc.Global.{Global}
use Rattle.std.specs.declared.alloc.AllocError.{AllocError}
use Rattle.std.specs.List.{All}
use Rattle.std.proofs.lemmas.Bool.{cases_Bool, eqb-true, eq-eqb}
use Rattle.wit_order.specs.Order.{Has}
use Rattle.wit_reach.specs.Paths.{AreEnds, AreRising, AreBackward}
use Rattle.wit_reach.specs.Types.{AreTypesBackward, AreTypesThere}
use Rattle.wit_reach.specs.Made.{IsMadeOfWithin}
use Rattle.wit_reach.proofs.Ends.{ends_below}
use Rattle.wit_reach.proofs.Local.{sides_there}
use Rattle.wit_types.specs.declared.interface.TypeDef.{TypeDef}
use Rattle.wit_types.specs.declared.interface.TypeOwner.{TypeOwner}
use Rattle.wit_types.specs.declared.interface.TypeOwner.TheVariants as belongs

-- ---- where the walk starts

pub starts_are : (needed more none first all : List ℕ) → none ≡ [] → first ≡ none ++ needed → all ≡ first ++ more → all ≡ needed ++ more
starts_are needed more none first all e f g = g ∙ ap (λ l. l ++ more) (f ∙ ap (λ l. l ++ needed) e)

pub walked_from : (uses : ℕ → ℕ → Type 0) (starts same : List ℕ) (r : Result (Vec ℕ Global) AllocError) → starts ≡ same → IfOk r (λ v. AreEnds uses (Has starts) v.items) → IfOk r (λ v. AreEnds uses (Has same) v.items)
walked_from uses starts same (Ok v) e h = subst (λ l. AreEnds uses (Has l) v.items) e h
walked_from uses starts same (Err x) e h = tt

pub all_has : (P : ℕ → Type 0) (xs : List ℕ) → ((i : ℕ) → Has xs i → P i) → All P xs
all_has P [] h k d lt = absurd (omega (arith, lt))
all_has P (x ∷ xs) h zero d lt = h x (inl refl)
all_has P (x ∷ xs) h (suc k) d lt = all_has P xs (λ i p. h i (inr p)) k d (omega (arith, lt))

within_backward : (types : List TypeDef) (by : TypeOwner) → AreTypesBackward types → AreBackward (IsMadeOfWithin by types)
within_backward types by backward i j h = backward i j (h.0, h.1, h.3)

pub ends_there : (types : List TypeDef) (by : TypeOwner) (starts order : List ℕ) → AreTypesBackward types → AreTypesThere types starts → AreEnds (IsMadeOfWithin by types) (Has starts) order → (i : ℕ) → Has order i → i < length types
ends_there types by starts order backward there ends = ends_below (IsMadeOfWithin by types) (length types) starts order (within_backward types by backward) there ends

pub walked_there : (types : List TypeDef) (own : ℕ) (needed more order : List ℕ) → AreTypesBackward types → AreTypesThere types needed → AreTypesThere types more
    → AreEnds (IsMadeOfWithin (belongs.Interface own) types) (Has (needed ++ more)) order → (i : ℕ) → Has order i → i < length types
walked_there types own needed more order backward there functions_there ends =
    ends_there types (belongs.Interface own) (needed ++ more) order backward (sides_there types needed more (needed ++ more) refl there functions_there) ends

-- ---- what counts of a rising list

after_head : (x : ℕ) (xs : List ℕ) (i : ℕ) → (i ≡ x → ⊥) → Has (x ∷ xs) i → Has xs i
after_head x xs i not h = elim h as (λ _. Has xs i) [ inl e ↦ absurd (not e) | inr k ↦ k ]

above : (x i : ℕ) → x < i → i ≡ x → ⊥
above x i lt e = absurd (omega (arith, lt, e))

pub flat_same : {X : Type 0} (f : ℕ → List X) (xs ys : List ℕ) → AreRising xs → AreRising ys → ((i : ℕ) → Has ys i → Has xs i) → ((i : ℕ) → Has xs i → Has ys i ⊎ (f i ≡ [])) → flat_map f xs ≡ flat_map f ys
flat_same f [] [] rise up there count = refl
flat_same f [] (y ∷ ys) rise up there count = absurd (there y (inl refl))
flat_same f (x ∷ xs) [] rise up there count =
    let empty : f x ≡ [] = elim (count x (inl refl)) as (λ _. f x ≡ []) [ inl h ↦ absurd h | inr e ↦ e ] in
    ap (λ l. l ++ flat_map f xs) empty ∙ flat_same f xs [] rise.1 up (λ i h. absurd h) (λ i h. count i (inr h))
flat_same f (x ∷ xs) (y ∷ ys) rise up there count = elim (cases_Bool (nat_eq x y)) [
  | inl b ↦
      let e : x ≡ y = eqb-true x y b in
      let first : flat_map f (x ∷ xs) ≡ f y ++ flat_map f xs = ap (λ z. f z ++ flat_map f xs) e in
      let inside : (i : ℕ) → Has ys i → Has xs i = λ i h. after_head x xs i (λ same. above y i (up.0 i h) (same ∙ e)) (there i (inr h)) in
      let counts : (i : ℕ) → Has xs i → Has ys i ⊎ (f i ≡ []) = λ i h. elim (count i (inr h)) as (λ _. Has ys i ⊎ (f i ≡ [])) [
        | inl k ↦ inl (after_head y ys i (λ same. above x i (rise.0 i h) (same ∙ sym e)) k)
        | inr n ↦ inr n
      ] in
      first ∙ ap (λ l. f y ++ l) (flat_same f xs ys rise.1 up.1 inside counts)
  | inr b ↦
      let differ : x ≡ y → ⊥ = λ e. (let k : true ≡ false = sym (eq-eqb x y e) ∙ b in absurd cc) in
      let below : x < y = rise.0 y (after_head x xs y (λ e. differ (sym e)) (there y (inl refl))) in
      let away : Has (y ∷ ys) x → ⊥ = λ h. elim h as (λ _. ⊥) [ inl e ↦ differ e | inr k ↦ (let lt = up.0 x k in absurd (omega (arith, below, lt))) ] in
      let empty : f x ≡ [] = elim (count x (inl refl)) as (λ _. f x ≡ []) [ inl h ↦ absurd (away h) | inr e ↦ e ] in
      let inside : (i : ℕ) → Has (y ∷ ys) i → Has xs i = λ i h. after_head x xs i (λ e. away (subst (Has (y ∷ ys)) e h)) (there i h) in
      ap (λ l. l ++ flat_map f xs) empty ∙ flat_same f xs (y ∷ ys) rise.1 up inside (λ i h. count i (inr h))
]
