-- Modules behind one that is handed in.
use Rattle.std.proofs.Common.{◌≡◌, ◌⊎◌, ℕ, zero, suc, List, [], ◌∷◌, Bool, true, false, not, ◌||◌, cond, Option, Some, None, inl, inr, refl, sym, ap, subst, ◌∙◌}
use Rattle.std.specs.Prelude.{is_none, slice_get}
use Rattle.std.proofs.lemmas.Slice.Eq.{bytes_eq-Decides}
use Rattle.wit_order.specs.Order.{Has}
use Rattle.handed_modules.specs.Law.{ModulesAreKept}
use Rattle.handed_modules.specs.Modules.{ModuleInput, AreApart, IsDuplicate, owner, same_owner, is_main, main_module, with_module, has_others}

abbrev takes : ModuleInput → ModuleInput → Bool
takes m n = same_owner (owner m) (owner n)

there : (m : ModuleInput) (ms : List ModuleInput) → Has (with_module m ms) m
there m [] = inl refl
there m (n ∷ ns) = by (takes m n) refl (there m ns)
  where
    by : (b : Bool) → takes m n ≡ b → Has (with_module m ns) m → Has (with_module m (n ∷ ns)) m
    by true t more = rw t (inl refl)
    by false t more = rw t (inr more)

only : (m : ModuleInput) (ms : List ModuleInput) (x : ModuleInput) → Has (with_module m ms) x → (x ≡ m) ⊎ Has ms x
only m [] x h = h
only m (n ∷ ns) x h = by (takes m n) refl (only m ns x) h
  where
    by : (b : Bool) → takes m n ≡ b → (Has (with_module m ns) x → (x ≡ m) ⊎ Has ns x) → Has (with_module m (n ∷ ns)) x → (x ≡ m) ⊎ Has (n ∷ ns) x
    by true t more g = (let found : Has (m ∷ ns) x = rw t at g in elim found as (λ _. (x ≡ m) ⊎ Has (n ∷ ns) x) [ inl here ↦ inl here | inr later ↦ inr (inr later) ])
    by false t more g = (
        let found : Has (n ∷ with_module m ns) x = rw t at g in
        elim found as (λ _. (x ≡ m) ⊎ Has (n ∷ ns) x) [
          | inl here ↦ inr (inl here)
          | inr later ↦ elim (more later) as (λ _. (x ≡ m) ⊎ Has (n ∷ ns) x) [ inl is ↦ inl is | inr was ↦ inr (inr was) ]
        ])

one : (ms : List ModuleInput) (m : ModuleInput) → main_module ms ≡ Some m → Has ms m × (is_main m ≡ true)
one [] m h = absurd cc
one (n ∷ ns) m h = by (is_main n) refl (one ns m) h
  where
    by : (b : Bool) → is_main n ≡ b → (main_module ns ≡ Some m → Has ns m × (is_main m ≡ true)) → main_module (n ∷ ns) ≡ Some m → Has (n ∷ ns) m × (is_main m ≡ true)
    by true t more g = (let found : Some n ≡ Some m = rw t at g in let same : n ≡ m = cc in (inl (sym same), ap is_main (sym same) ∙ t))
    by false t more g = (let found : main_module ns ≡ Some m = rw t at g in let r = more found in (inr r.0, r.1))

-- the main module takes the place of the main module alone
main_takes : (a b : Option (List ℕ)) → is_none a ≡ true → same_owner a b ≡ is_none b
main_takes None None h = refl
main_takes None (Some y) h = refl
main_takes (Some x) b h = absurd cc

-- and others take that of others
others_take : (a b : Option (List ℕ)) → is_none a ≡ false → same_owner a b ≡ true → is_none b ≡ false
others_take None b h t = absurd cc
others_take (Some x) None h t = absurd cc
others_take (Some x) (Some y) h t = refl

main : (m : ModuleInput) (ms : List ModuleInput) → is_main m ≡ true → main_module (with_module m ms) ≡ Some m
main m [] h = rw h refl
main m (n ∷ ns) h = by (is_main n) refl (main m ns h)
  where
    by : (b : Bool) → is_main n ≡ b → main_module (with_module m ns) ≡ Some m → main_module (with_module m (n ∷ ns)) ≡ Some m
    by true t more = (let takes_it : takes m n ≡ true = main_takes (owner m) (owner n) h ∙ t in rw takes_it (rw h refl))
    by false t more = (let leaves : takes m n ≡ false = main_takes (owner m) (owner n) h ∙ t in rw leaves (rw t more))

others : (m : ModuleInput) (ms : List ModuleInput) → is_main m ≡ false → main_module (with_module m ms) ≡ main_module ms
others m [] h = rw h refl
others m (n ∷ ns) h = by (takes m n) refl (others m ns h)
  where
    by : (b : Bool) → takes m n ≡ b → main_module (with_module m ns) ≡ main_module ns → main_module (with_module m (n ∷ ns)) ≡ main_module (n ∷ ns)
    by true t more = (let is_other : is_main n ≡ false = others_take (owner m) (owner n) h t in rw t (rw h (rw is_other refl)))
    by false t more = rw t (ap (λ (o : Option ModuleInput). cond (is_main n) (Some n) o) more)

alone : (m : ModuleInput) (ms : List ModuleInput) → is_main m ≡ true → has_others (with_module m ms) ≡ has_others ms
alone m [] h = rw h refl
alone m (n ∷ ns) h = by (is_main n) refl (alone m ns h)
  where
    by : (b : Bool) → is_main n ≡ b → has_others (with_module m ns) ≡ has_others ns → has_others (with_module m (n ∷ ns)) ≡ has_others (n ∷ ns)
    by true t more = (let takes_it : takes m n ≡ true = main_takes (owner m) (owner n) h ∙ t in rw takes_it (rw h (rw t refl)))
    by false t more = (let leaves : takes m n ≡ false = main_takes (owner m) (owner n) h ∙ t in rw leaves (ap (λ (b : Bool). not (is_main n) || b) more))

unlike : (m : ModuleInput) (ms : List ModuleInput) → is_main m ≡ true → has_others ms ≡ false → IsDuplicate ms m → ⊥
unlike m [] h none twice = absurd cc
unlike m (n ∷ ns) h none twice = by (is_main n) refl none twice (unlike m ns h)
  where
    by : (b : Bool) → is_main n ≡ b → has_others (n ∷ ns) ≡ false → IsDuplicate (n ∷ ns) m → (has_others ns ≡ false → IsDuplicate ns m → ⊥) → ⊥
    by true t left same more = (let takes_it : takes m n ≡ true = main_takes (owner m) (owner n) h ∙ t in more (rw t at left) (rw takes_it at same))
    by false t left same more = (let bad : true ≡ false = rw t at left in absurd cc)

-- ---- none is there twice

is_same : (a b : Option (List ℕ)) → same_owner a b ≡ true → a ≡ b
is_same None None t = refl
is_same None (Some y) t = absurd cc
is_same (Some x) None t = absurd cc
is_same (Some x) (Some y) t = ap (λ (n : List ℕ). Some n) ((bytes_eq-Decides x y).0 t)

same_self : (a : Option (List ℕ)) → same_owner a a ≡ true
same_self None = refl
same_self (Some x) = (bytes_eq-Decides x x).1 refl

same_both : (a b : Option (List ℕ)) → same_owner a b ≡ true → same_owner b a ≡ true
same_both a b t = subst (λ c. same_owner c a ≡ true) (is_same a b t) (same_self a)

same_on : (a b c : Option (List ℕ)) → same_owner a b ≡ true → same_owner a c ≡ true → same_owner b c ≡ true
same_on a b c t u = subst (λ d. same_owner d c ≡ true) (is_same a b t) u

-- what stands at a place is the module, or stood there
stood : (m : ModuleInput) (ms : List ModuleInput) (j : ℕ) (b : ModuleInput) → slice_get (with_module m ms) j ≡ Some b → (b ≡ m) ⊎ (slice_get ms j ≡ Some b)
stood m [] zero b at = inl (let same : Some m ≡ Some b = at in cc)
stood m [] (suc j) b at = absurd cc
stood m (n ∷ ns) j b at = by (takes m n) refl j (stood m ns) at
  where
    by : (b0 : Bool) → takes m n ≡ b0 → (k : ℕ) → ((i : ℕ) (c : ModuleInput) → slice_get (with_module m ns) i ≡ Some c → (c ≡ m) ⊎ (slice_get ns i ≡ Some c))
        → slice_get (with_module m (n ∷ ns)) k ≡ Some b → (b ≡ m) ⊎ (slice_get (n ∷ ns) k ≡ Some b)
    by true t zero more g = inl (let found : Some m ≡ Some b = rw t at g in cc)
    by true t (suc k) more g = inr (rw t at g)
    by false t zero more g = inr (rw t at g)
    by false t (suc k) more g = more k b (rw t at g)

pub apart : (m : ModuleInput) (ms : List ModuleInput) → AreApart ms → AreApart (with_module m ms)
apart m [] none zero zero a b at_a at_b same = refl
apart m [] none zero (suc j) a b at_a at_b same = absurd cc
apart m [] none (suc i) j a b at_a at_b same = absurd cc
apart m (n ∷ ns) were i j a b at_a at_b same = by (takes m n) refl i j (apart m ns later) at_a at_b
  where
    later : AreApart ns
    later k l c d at_c at_d s = (let e : suc k ≡ suc l = were (suc k) (suc l) c d at_c at_d s in cc)

    -- the first is none of those behind it
    first : (l : ℕ) (c : ModuleInput) → slice_get ns l ≡ Some c → same_owner (owner n) (owner c) ≡ true → ⊥
    first l c at_c s = (let e : 0 ≡ suc l = were 0 (suc l) n c refl at_c s in cc)

    by : (t : Bool) → takes m n ≡ t → (k l : ℕ) → AreApart (with_module m ns) → slice_get (with_module m (n ∷ ns)) k ≡ Some a → slice_get (with_module m (n ∷ ns)) l ≡ Some b → k ≡ l
    by true e zero zero more at_k at_l = refl
    by true e zero (suc l) more at_k at_l = (
        let one : Some m ≡ Some a = rw e at at_k in
        let is : m ≡ a = cc in
        let other : slice_get ns l ≡ Some b = rw e at at_l in
        absurd (first l b other (same_on (owner m) (owner n) (owner b) e (subst (λ x. same_owner (owner x) (owner b) ≡ true) (sym is) same))))
    by true e (suc k) zero more at_k at_l = (
        let one : Some m ≡ Some b = rw e at at_l in
        let is : m ≡ b = cc in
        let other : slice_get ns k ≡ Some a = rw e at at_k in
        absurd (first k a other (same_on (owner m) (owner n) (owner a) e (subst (λ x. same_owner (owner x) (owner a) ≡ true) (sym is) (same_both (owner a) (owner b) same)))))
    by true e (suc k) (suc l) more at_k at_l = (
        let left : slice_get ns k ≡ Some a = rw e at at_k in
        let right : slice_get ns l ≡ Some b = rw e at at_l in
        ap (λ x. suc x) (later k l a b left right same))
    by false e zero zero more at_k at_l = refl
    by false e zero (suc l) more at_k at_l = (
        let one : Some n ≡ Some a = rw e at at_k in
        let is : n ≡ a = cc in
        let here : same_owner (owner n) (owner b) ≡ true = subst (λ x. same_owner (owner x) (owner b) ≡ true) (sym is) same in
        let other : slice_get (with_module m ns) l ≡ Some b = rw e at at_l in
        elim (stood m ns l b other) as (λ _. 0 ≡ suc l) [
          | inl new ↦ (let t : takes m n ≡ true = same_both (owner n) (owner m) (subst (λ x. same_owner (owner n) (owner x) ≡ true) new here) in absurd cc)
          | inr was ↦ absurd (first l b was here)
        ])
    by false e (suc k) zero more at_k at_l = (
        let one : Some n ≡ Some b = rw e at at_l in
        let is : n ≡ b = cc in
        let here : same_owner (owner n) (owner a) ≡ true = subst (λ x. same_owner (owner x) (owner a) ≡ true) (sym is) (same_both (owner a) (owner b) same) in
        let other : slice_get (with_module m ns) k ≡ Some a = rw e at at_k in
        elim (stood m ns k a other) as (λ _. suc k ≡ 0) [
          | inl new ↦ (let t : takes m n ≡ true = same_both (owner n) (owner m) (subst (λ x. same_owner (owner n) (owner x) ≡ true) new here) in absurd cc)
          | inr was ↦ absurd (first k a was here)
        ])
    by false e (suc k) (suc l) more at_k at_l = (
        let left : slice_get (with_module m ns) k ≡ Some a = rw e at at_k in
        let right : slice_get (with_module m ns) l ≡ Some b = rw e at at_l in
        ap (λ x. suc x) (more k l a b left right same))

pub modules_are_kept : ModulesAreKept
modules_are_kept = record { there = there; only = only; apart = apart; one = one; main = main; others = others; alone = alone; unlike = unlike }
