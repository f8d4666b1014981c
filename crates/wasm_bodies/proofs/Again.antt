-- What was written as a generated function is read as it.
use Rattle.std.proofs.Common.{◌≡◌, ℕ, zero, suc, length, rules, false, ◌+◌, ◌-◌, ◌≤◌, arith, Bool, true, List, [], ◌∷◌, ◌++◌, Option, Some, None, refl, sym, ap, subst, ◌∙◌, append_assoc, append-nil}
use Rattle.std.proofs.lemmas.Bool.{eq-eqb}
use Rattle.std.proofs.lemmas.Grind.{flat_map-append}
use Rattle.std.specs.List.{flat_map}
use Rattle.std.specs.Prelude.{option_and_then, option_map, ◌==◌, if◌then◌else◌}
use Rattle.wasm_bodies.specs.declared.instructions.BodyInstruction.{BodyInstruction}
use Rattle.wasm_bodies.specs.declared.instructions.BodyInstruction.TheVariants as code
use Rattle.wasm_bodies.specs.declared.generated.HookCall.{HookCall}
use Rattle.wasm_bodies.specs.declared.generated.StartStep.{StartStep}
use Rattle.wasm_bodies.specs.declared.generated.StartStep.TheVariants as steps
use Rattle.wasm_bodies.specs.Generated.{BodyShape, trap_stub, table_stand_in, reference_stand_in, hooked_call, start_code, parameters, perhaps_told, step_instructions, instructions_of, is_start_code, IsBody, behind_one, behind, told_last, call_at, handing_at, body_at, step_at}

one_again : (n : ℕ) (is : List BodyInstruction) → behind_one n (code.LocalGet n ∷ is) ≡ Some is
one_again n is = ap (λ (b : Bool). if b then Some is else None) (eq-eqb n n refl)

pub behind_again : (n : ℕ) (is : List BodyInstruction) → behind n (parameters n ++ is) ≡ Some is
behind_again zero is = refl
behind_again (suc n) is =
    ap (λ (l : List BodyInstruction). option_and_then (behind_one n) (behind n l)) (append_assoc (parameters n) (code.LocalGet n ∷ []) is)
    ∙ ap (option_and_then (behind_one n)) (behind_again n (code.LocalGet n ∷ is))
    ∙ one_again n is

-- the first parameter stands first
begins : (m : ℕ) → (rest : List BodyInstruction) × (parameters (suc m) ≡ code.LocalGet 0 ∷ rest)
begins zero = ([], refl)
begins (suc m) = ((begins m).0 ++ code.LocalGet (suc m) ∷ [], ap (λ (l : List BodyInstruction). l ++ code.LocalGet (suc m) ∷ []) (begins m).1)

past : (m : ℕ) (is : List BodyInstruction) → body_at (suc m) (parameters (suc m) ++ is) ≡ handing_at is
past m is =
    let whole : parameters (suc m) ++ is ≡ code.LocalGet 0 ∷ ((begins m).0 ++ is) = ap (λ (l : List BodyInstruction). l ++ is) (begins m).1 in
    let opened : body_at (suc m) (parameters (suc m) ++ is) ≡ option_and_then handing_at (behind (suc m) (parameters (suc m) ++ is)) =
    ap (body_at (suc m)) whole ∙ ap (λ (l : List BodyInstruction). option_and_then handing_at (behind (suc m) l)) (sym whole) in
    opened ∙ ap (option_and_then handing_at) (behind_again (suc m) is)

told_again : (after : Option HookCall) → told_last (perhaps_told after) ≡ Some after
told_again None = refl
told_again (Some h) = refl

call_again : (before : Option HookCall) (f : ℕ) (after : Option HookCall) → call_at before (code.Call f ∷ perhaps_told after) ≡ Some (hooked_call before f after)
call_again before f after = ap (option_map (hooked_call before f)) (told_again after)

again : (n : ℕ) (b : BodyShape) → is_start_code b ≡ false → body_at n (instructions_of n b) ≡ Some b
again n trap_stub h = refl
again zero (table_stand_in slot t) h = refl
again (suc m) (table_stand_in slot t) h = past m (code.I32Const slot ∷ code.CallIndirect t 0 ∷ [])
again zero (reference_stand_in g t) h = refl
again (suc m) (reference_stand_in g t) h = past m (code.GlobalGet g ∷ code.CallRef t ∷ [])
again zero (hooked_call None f after) h = call_again None f after
again (suc m) (hooked_call None f after) h = past m (code.Call f ∷ perhaps_told after) ∙ call_again None f after
again n (hooked_call (Some h) f after) e =
    ap (option_and_then (call_at (Some h))) (behind_again n (code.Call f ∷ perhaps_told after)) ∙ call_again (Some h) f after
again n (start_code ss) h = absurd cc

pub only_body : (n : ℕ) (is : List BodyInstruction) (b : BodyShape) → IsBody n is b → body_at n is ≡ Some b
only_body n is b h = ap (body_at n) (sym h.written) ∙ again n b h.plain

-- ---- start code

step_again : (s : StartStep) (is : List BodyInstruction) → step_at (step_instructions s ++ is) ≡ Some (s, is)
step_again (steps.InitGlobal f g) is = refl
step_again (steps.Call f) is = refl
step_again (steps.CallHook h) is = refl

abbrev all_steps : List StartStep → List BodyInstruction
all_steps ss = flat_map step_instructions ss

-- what is left of the steps behind these
abbrev pub Left : List StartStep → List StartStep → List BodyInstruction → Type 0
Left ss front rest = (left : List StartStep) × (ss ≡ front ++ left) × (all_steps left ≡ rest)

abbrev step_and : StartStep → List BodyInstruction → Option (StartStep × List BodyInstruction)
step_and s is = Some (s, is)

abbrev step_in : StartStep → Option (StartStep × List BodyInstruction) → StartStep
step_in s None = s
step_in s (Some x) = x.0

abbrev rest_in : List BodyInstruction → Option (StartStep × List BodyInstruction) → List BodyInstruction
rest_in is None = is
rest_in is (Some x) = x.1

first_is : (s t : StartStep) (is js : List BodyInstruction) → step_and s is ≡ step_and t js → (s ≡ t) × (is ≡ js)
first_is s t is js e = (ap (λ (o : Option (StartStep × List BodyInstruction)). step_in s o) e, ap (λ (o : Option (StartStep × List BodyInstruction)). rest_in is o) e)

pub one_more : (ss front : List StartStep) (rest : List BodyInstruction) (s : StartStep) (more : List BodyInstruction) → Left ss front rest → step_at rest ≡ Some (s, more) → Left ss (front ++ s ∷ []) more
one_more ss front rest s more ([], parts, e) h = absurd cc
one_more ss front rest s more (x ∷ left, parts, e) h =
    let first = first_is x s (all_steps left) more (sym (step_again x (all_steps left)) ∙ ap step_at e ∙ h) in
    (left, parts ∙ ap (λ (y : StartStep). front ++ y ∷ left) first.0 ∙ sym (append_assoc front (s ∷ []) left), first.1)

pub none_left : (ss front : List StartStep) → Left ss front [] → ss ≡ front
none_left ss front ([], parts, e) = parts ∙ append-nil front
none_left ss front (steps.InitGlobal f g ∷ left, parts, e) = absurd cc
none_left ss front (steps.Call f ∷ left, parts, e) = absurd cc
none_left ss front (steps.CallHook h ∷ left, parts, e) = absurd cc

pub stuck : (ss front : List StartStep) (i : BodyInstruction) (rest : List BodyInstruction) → Left ss front (i ∷ rest) → step_at (i ∷ rest) ≡ None → ⊥
stuck ss front i rest ([], parts, e) h = absurd cc
stuck ss front i rest (x ∷ left, parts, e) h = let good = sym (step_again x (all_steps left)) ∙ ap step_at e ∙ h in absurd cc

pub stuck_at : (ss front : List StartStep) (rest : List BodyInstruction) → Left ss front rest → (rest ≡ [] → ⊥) → step_at rest ≡ None → ⊥
stuck_at ss front [] left some h = some refl
stuck_at ss front (i ∷ rest) left some h = stuck ss front i rest left h

pub is_nothing : (is : List BodyInstruction) → true ≡ (length is == 0) → is ≡ []
is_nothing [] h = refl
is_nothing (i ∷ is) h = absurd (search rules)

pub is_something : (is : List BodyInstruction) → false ≡ (length is == 0) → is ≡ [] → ⊥
is_something [] h e = absurd (search rules)
is_something (i ∷ is) h e = absurd cc

pushed : (front : List StartStep) (s : StartStep) → all_steps (front ++ s ∷ []) ≡ all_steps front ++ step_instructions s
pushed front s = flat_map-append step_instructions front (s ∷ []) ∙ ap (λ (l : List BodyInstruction). all_steps front ++ l) (append-nil (step_instructions s))

pub one_step_more : (front : List StartStep) (s : StartStep) (is rest more : List BodyInstruction) → is ≡ all_steps front ++ rest → rest ≡ step_instructions s ++ more → is ≡ all_steps (front ++ s ∷ []) ++ more
one_step_more front s is rest more h e =
    h ∙ ap (λ (l : List BodyInstruction). all_steps front ++ l) e ∙ sym (append_assoc (all_steps front) (step_instructions s) more)
    ∙ ap (λ (l : List BodyInstruction). l ++ more) (sym (pushed front s))

-- ---- parameters

stays_none : (n k m : ℕ) (is : List BodyInstruction) → behind n is ≡ None → m ≡ k + n → behind m is ≡ None
stays_none n zero m is h e = let same : n ≡ m = omega (arith, e) in subst (λ (j : ℕ). behind j is ≡ None) same h
stays_none n (suc k) m is h e =
    let same : suc (k + n) ≡ m = omega (arith, e) in
    subst (λ (j : ℕ). behind j is ≡ None) same (ap (option_and_then (behind_one (k + n))) (stays_none n k (k + n) is h refl))

pub none_within : (n m : ℕ) (is : List BodyInstruction) → behind n is ≡ None → n ≤ m → behind m is ≡ None
none_within n m is h le = stays_none n (m - n) m is h (omega (arith, le))
