-- Functions one after the other.
use Rattle.std.proofs.Common.{◌≡◌, ◌⊎◌, ℕ, zero, suc, Some, arith, ◌+◌, ◌<◌, List, [], ◌∷◌, ◌++◌, length, take, drop, get_or, sym, ap, subst, ◌∙◌, append_assoc, inl, inr}
use Rattle.std.specs.Prelude.{slice_get, string_bytes}
use Rattle.std.specs.Borrow.{Bor}
use Rattle.std.specs.List.{AllByRecursion as Each}
use Rattle.std.proofs.lemmas.List.{map-append, take-append-drop}
use Rattle.wit_order.specs.Order.{Has}
use Rattle.wit_types.specs.declared.function.Function.{Function}
use Rattle.wit_types.specs.declared.function.Param.{Param}
use Rattle.type_sinks.specs.Passed.type_writing-Functions.{function_form}
use Rattle.type_sinks.specs.Passed.type_writing-Placing.{AreParametersApart}
use Rattle.type_sinks.proofs.Passed.type_writing-Standing.{taken_next}
use Rattle.type_sinks.proofs.Passed.type_writing-Refusals.{parts_less}
use Rattle.component_imports.specs.Functions.{functions_of, function_names, HaveParametersApart, IsFunctionUnready, AreFunctionsUnready}

pub functions_next : (fs : List (Bor Function)) (i : ℕ) (f : Bor Function) → i < length fs → f ≡ get_or fs i f → functions_of (take i fs) ++ f.now ∷ [] ≡ functions_of (take (i + 1) fs)
functions_next fs i f lt here = sym (map-append (λ (g : Bor Function). g.now) (take i fs) (f ∷ [])) ∙ ap functions_of (taken_next fs i f lt here)

pub names_next : (fs : List (Bor Function)) (i : ℕ) (f : Bor Function) (n : List ℕ) (old mid new : List (List ℕ)) → i < length fs → f ≡ get_or fs i f → n ≡ string_bytes f.now.name
    → mid ≡ old ++ function_names (functions_of (take i fs)) → new ≡ mid ++ n ∷ [] → new ≡ old ++ function_names (functions_of (take (i + 1) fs))
names_next fs i f n old mid new lt here is before one =
    let fs_names : function_names (functions_of (take i fs)) ++ n ∷ [] ≡ function_names (functions_of (take (i + 1) fs)) =
    ap (λ m. function_names (functions_of (take i fs)) ++ m ∷ []) is ∙ sym (map-append (λ (g : Function). string_bytes g.name) (functions_of (take i fs)) (f.now ∷ [])) ∙ ap function_names (functions_next fs i f lt here) in
    one ∙ ap (λ l. l ++ n ∷ []) before ∙ append_assoc old (function_names (functions_of (take i fs))) (n ∷ []) ∙ ap (λ l. old ++ l) fs_names

has_push : (P Q : Function → Type 0) (fs : List Function) (f : Function) → ((g : Function) → P g → Q g) → Each P fs → Q f → Each Q (fs ++ f ∷ [])
has_push P Q [] f keeps h one = (one, tt)
has_push P Q (g ∷ fs) f keeps h one = (keeps g h.0, has_push P Q fs f keeps h.1 one)

pub has_next : (P Q : Function → Type 0) (fs : List (Bor Function)) (i : ℕ) (f : Bor Function) → i < length fs → f ≡ get_or fs i f → ((g : Function) → P g → Q g) → Each P (functions_of (take i fs)) → Q f.now → Each Q (functions_of (take (i + 1) fs))
has_next P Q fs i f lt here keeps h one = subst (Each Q) (functions_next fs i f lt here) (has_push P Q (functions_of (take i fs)) f.now keeps h one)

pub functions_cause : (ready : ℕ → Type 0) (names mid : List (List ℕ)) (fs : List (Bor Function)) (i : ℕ) (f : Bor Function) → i < length fs → f ≡ get_or fs i f
    → mid ≡ names ++ function_names (functions_of (take i fs)) → IsFunctionUnready ready mid f.now → AreFunctionsUnready ready names (functions_of fs)
functions_cause ready names mid fs i f lt here all h = record {
  before = functions_of (take i fs);
  function = f.now;
  behind = functions_of (drop (i + 1) fs);
  are = ap functions_of (sym (take-append-drop (i + 1) fs)) ∙ map-append (λ (g : Bor Function). g.now) (take (i + 1) fs) (drop (i + 1) fs)
      ∙ ap (λ l. l ++ functions_of (drop (i + 1) fs)) (sym (functions_next fs i f lt here)) ∙ append_assoc (functions_of (take i fs)) (f.now ∷ []) (functions_of (drop (i + 1) fs));
  unready = subst (λ l. IsFunctionUnready ready l f.now) all h;
}

-- ---- names of parameters

pub each_get : {X : Type 0} (P : X → Type 0) (xs : List X) (i : ℕ) (x : X) → Each P xs → slice_get xs i ≡ Some x → P x
each_get P [] i x h at = absurd cc
each_get P (y ∷ xs) zero x h at = let same : y ≡ x = cc in subst P same h.0
each_get P (y ∷ xs) (suc i) x h at = each_get P xs i x h.1 at

-- those of one of these functions
pub parameters_at : (fs : List (Bor Function)) (i : ℕ) (f : Bor Function) (ps : List Param) → i < length fs → f ≡ get_or fs i f → ps ≡ f.now.params.items → HaveParametersApart (functions_of fs) → AreParametersApart ps
parameters_at [] i f ps lt here same h = absurd (omega (arith, lt))
parameters_at (g ∷ fs) zero f ps lt here same h = subst AreParametersApart (sym (same ∙ ap (λ (b : Bor Function). b.now.params.items) here)) h.0
parameters_at (g ∷ fs) (suc i) f ps lt here same h = parameters_at fs i f ps (omega (arith, lt)) here same h.1

-- ---- causes

-- where more is ready
pub functions_less : (ready less : ℕ → Type 0) (names : List (List ℕ)) (fs : List Function) → ((k : ℕ) → less k → ready k) → AreFunctionsUnready ready names fs → AreFunctionsUnready less names fs
functions_less ready less names fs wider h = record {
  before = h.before;
  function = h.function;
  behind = h.behind;
  are = h.are;
  unready = elim h.unready as (λ _. IsFunctionUnready less (names ++ function_names h.before) h.function) [ inl p ↦ inl (parts_less ready less wider (function_form h.function.params.items h.function.result).parts p) | inr n ↦ inr n ];
}

-- behind types that are written
pub items_cause : (ready now : ℕ → Type 0) (names given : List (List ℕ)) (ids : List ℕ) (fs : List Function) → ((k : ℕ) → ready k ⊎ Has ids k → now k) → given ≡ names → AreFunctionsUnready now given fs → AreFunctionsUnready (λ id. ready id ⊎ Has ids id) names fs
items_cause ready now names given ids fs wider same h = functions_less now (λ id. ready id ⊎ Has ids id) names fs wider (subst (λ l. AreFunctionsUnready now l fs) same h)
