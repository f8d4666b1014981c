-- Marks of functions.
use Rattle.std.proofs.Common.{◌≡◌, ℕ, zero, suc, ◌<◌, ◌≤◌, Bool, true, false, List, [], ◌∷◌, ◌++◌, length, set, Some, refl, sym, ap, ◌∙◌, arith}
use Rattle.std.specs.Prelude.{slice_get, ◌==◌, ◌||◌, replicate}
use Rattle.std.specs.List.{list_any}
use Rattle.std.proofs.lemmas.Bool.{eqb-true, eq-eqb}
use Rattle.std.proofs.lemmas.List.Folds.{list_any-append}
use Rattle.generated_modules.specs.Shape.{with_mark}

-- whether each of so many functions is one of these
abbrev pub Marked : ℕ → List ℕ → List Bool → Type 0
Marked n gs ms = (length ms ≡ n) × ((f : ℕ) → f < n → slice_get ms f ≡ Some (list_any (λ g. g == f) gs))

true_is_false : true ≡ false → ⊥
true_is_false e = absurd cc

pub set_is_mark : (ms : List Bool) (g : ℕ) → set ms g true ≡ with_mark ms g
set_is_mark [] g = refl
set_is_mark (m ∷ ms) zero = refl
set_is_mark (m ∷ ms) (suc g) = ap (λ (l : List Bool). m ∷ l) (set_is_mark ms g)

pub past_end : (ms : List Bool) (g : ℕ) → length ms ≤ g → with_mark ms g ≡ ms
past_end [] g le = refl
past_end (m ∷ ms) zero le = absurd (omega (arith, le))
past_end (m ∷ ms) (suc g) le = ap (λ (l : List Bool). m ∷ l) (past_end ms g (omega (arith, le)))

as_long : (ms : List Bool) (g : ℕ) → length (with_mark ms g) ≡ length ms
as_long [] g = refl
as_long (m ∷ ms) zero = refl
as_long (m ∷ ms) (suc g) = ap suc (as_long ms g)

mark_here : (ms : List Bool) (f : ℕ) → f < length ms → slice_get (with_mark ms f) f ≡ Some true
mark_here [] f lt = absurd (omega (arith, lt))
mark_here (m ∷ ms) zero lt = refl
mark_here (m ∷ ms) (suc f) lt = mark_here ms f (omega (arith, lt))

mark_there : (ms : List Bool) (g f : ℕ) → (g ≡ f → ⊥) → slice_get (with_mark ms g) f ≡ slice_get ms f
mark_there [] g f other = refl
mark_there (m ∷ ms) zero zero other = absurd (other refl)
mark_there (m ∷ ms) zero (suc f) other = refl
mark_there (m ∷ ms) (suc g) zero other = refl
mark_there (m ∷ ms) (suc g) (suc f) other = mark_there ms g f (λ e. other (ap suc e))

or_true : (b : Bool) → (b || true) ≡ true
or_true true = refl
or_true false = refl

or_false : (b : Bool) → (b || false) ≡ b
or_false true = refl
or_false false = refl

one_at_end : (gs : List ℕ) (g f : ℕ) (b : Bool) → (g == f) ≡ b → list_any (λ h. h == f) (gs ++ g ∷ []) ≡ (list_any (λ h. h == f) gs || b)
one_at_end gs g f b e = list_any-append (λ h. h == f) gs (g ∷ []) ∙ ap (λ (c : Bool). list_any (λ h. h == f) gs || c) (or_false (g == f) ∙ e)

pub one_more : (n : ℕ) (gs : List ℕ) (ms : List Bool) (g : ℕ) → Marked n gs ms → Marked n (gs ++ g ∷ []) (with_mark ms g)
one_more n gs ms g h = (as_long ms g ∙ h.0, λ f lt. each f lt (g == f) refl)
  where
    each : (f : ℕ) → f < n → (b : Bool) → (g == f) ≡ b → slice_get (with_mark ms g) f ≡ Some (list_any (λ g. g == f) (gs ++ g ∷ []))
    each f lt true e =
        let same : g ≡ f = eqb-true g f e in
        let inside : f < length ms = omega (arith, lt, h.0) in
        ap (λ (k : ℕ). slice_get (with_mark ms k) f) same ∙ mark_here ms f inside ∙ ap (λ (b : Bool). Some b) (sym (one_at_end gs g f true e ∙ or_true (list_any (λ h. h == f) gs)))
    each f lt false e =
        mark_there ms g f (λ same. absurd (true_is_false (sym (eq-eqb g f same) ∙ e))) ∙ h.1 f lt ∙ ap (λ (b : Bool). Some b) (sym (one_at_end gs g f false e ∙ or_false (list_any (λ h. h == f) gs)))

none_long : (n : ℕ) → length (replicate n false) ≡ n
none_long zero = refl
none_long (suc n) = ap suc (none_long n)

none_at : (n f : ℕ) → f < n → slice_get (replicate n false) f ≡ Some false
none_at zero f lt = absurd (omega (arith, lt))
none_at (suc n) zero lt = refl
none_at (suc n) (suc f) lt = none_at n f (omega (arith, lt))

pub none_yet : (n : ℕ) → Marked n [] (replicate n false)
none_yet n = (none_long n, none_at n)
