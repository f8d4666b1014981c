-- What generated functions do.
use Rattle.std.specs.Prelude.{◌≡◌, ℕ, zero, suc, ℤ, List, [], ◌∷◌, ◌++◌, Option, Some, None, option_map, option_and_then, Bool, true, false, ◌==◌, if◌then◌else◌}
use Rattle.std.specs.List.{flat_map}
use Rattle.wasm_bodies.specs.declared.instructions.BodyInstruction.{BodyInstruction}
use Rattle.wasm_bodies.specs.declared.instructions.BodyInstruction.TheVariants as code
use Rattle.wasm_bodies.specs.declared.generated.HookCall.{HookCall}
use Rattle.wasm_bodies.specs.declared.generated.StartStep.{StartStep}
use Rattle.wasm_bodies.specs.declared.generated.StartStep.TheVariants as steps
use Rattle.wasm_bodies.specs.declared.generated.GeneratedBody.{GeneratedBody}
use Rattle.wasm_bodies.specs.declared.generated.GeneratedBody.TheVariants as bodies

-- what a function does, without where its steps lie in memory
pub data BodyShape : Type 0 where
  trap_stub : BodyShape
  -- slot, type
  table_stand_in : ℤ → ℕ → BodyShape
  -- global, type
  reference_stand_in : ℕ → ℕ → BodyShape
  -- a hook before, the function that is called, a hook after
  hooked_call : Option HookCall → ℕ → Option HookCall → BodyShape
  start_code : List StartStep → BodyShape

abbrev pub body_shape : GeneratedBody → BodyShape
body_shape bodies.TrapStub = trap_stub
body_shape (bodies.TableStandIn slot t) = table_stand_in slot t
body_shape (bodies.ReferenceStandIn g t) = reference_stand_in g t
body_shape (bodies.HookedCall before f after) = hooked_call before f after
body_shape (bodies.StartCode ss) = start_code ss.items

-- ---- as they are written

-- each parameter in order
abbrev pub parameters : ℕ → List BodyInstruction
parameters zero = []
parameters (suc n) = parameters n ++ code.LocalGet n ∷ []

-- a hook is told a number
abbrev pub told : HookCall → List BodyInstruction
told h = code.I32Const h.number ∷ code.Call h.hook ∷ []

abbrev pub perhaps_told : Option HookCall → List BodyInstruction
perhaps_told None = []
perhaps_told (Some h) = told h

abbrev pub step_instructions : StartStep → List BodyInstruction
step_instructions (steps.InitGlobal f g) = code.RefFunc f ∷ code.GlobalSet g ∷ []
step_instructions (steps.Call f) = code.Call f ∷ []
step_instructions (steps.CallHook h) = told h

-- of a function of so many parameters, without the end
abbrev pub instructions_of : ℕ → BodyShape → List BodyInstruction
instructions_of n trap_stub = code.Unreachable ∷ []
instructions_of n (table_stand_in slot t) = parameters n ++ code.I32Const slot ∷ code.CallIndirect t 0 ∷ []
instructions_of n (reference_stand_in g t) = parameters n ++ code.GlobalGet g ∷ code.CallRef t ∷ []
instructions_of n (hooked_call before f after) = perhaps_told before ++ parameters n ++ code.Call f ∷ perhaps_told after
instructions_of n (start_code ss) = flat_map step_instructions ss

abbrev pub is_start_code : BodyShape → Bool
is_start_code (start_code ss) = true
is_start_code _ = false

-- ---- as they are read

-- instructions are what such a function of so many parameters does, which doesn't start its module
pub record IsBody (n : ℕ) (is : List BodyInstruction) (b : BodyShape) : Type 0 where
  pub written : instructions_of n b ≡ is
  pub plain : is_start_code b ≡ false

-- instructions are what start code does
abbrev pub IsStartCode : List BodyInstruction → List StartStep → Type 0
IsStartCode is ss = flat_map step_instructions ss ≡ is

-- ---- the same by the instructions that stand there

-- what stands behind a parameter
abbrev pub behind_one : ℕ → List BodyInstruction → Option (List BodyInstruction)
behind_one n (code.LocalGet i ∷ is) = if i == n then Some is else None
behind_one n _ = None

abbrev pub behind : ℕ → List BodyInstruction → Option (List BodyInstruction)
behind zero is = Some is
behind (suc n) is = option_and_then (behind_one n) (behind n is)

abbrev pub told_last : List BodyInstruction → Option (Option HookCall)
told_last [] = Some None
told_last (code.I32Const z ∷ code.Call h ∷ []) = Some (Some (record { number = z; hook = h }))
told_last _ = None

abbrev pub call_at : Option HookCall → List BodyInstruction → Option BodyShape
call_at before (code.Call f ∷ is) = option_map (hooked_call before f) (told_last is)
call_at before _ = None

abbrev pub handing_at : List BodyInstruction → Option BodyShape
handing_at (code.I32Const slot ∷ code.CallIndirect t zero ∷ []) = Some (table_stand_in slot t)
handing_at (code.GlobalGet g ∷ code.CallRef t ∷ []) = Some (reference_stand_in g t)
handing_at is = call_at None is

abbrev pub body_at : ℕ → List BodyInstruction → Option BodyShape
body_at n (code.Unreachable ∷ []) = Some trap_stub
body_at n (code.I32Const z ∷ code.Call h ∷ is) = option_and_then (call_at (Some (record { number = z; hook = h }))) (behind n is)
body_at n is = option_and_then handing_at (behind n is)

-- the first step of start code
abbrev pub step_at : List BodyInstruction → Option (StartStep × List BodyInstruction)
step_at (code.RefFunc f ∷ code.GlobalSet g ∷ is) = Some (steps.InitGlobal f g, is)
step_at (code.Call f ∷ is) = Some (steps.Call f, is)
step_at (code.I32Const z ∷ code.Call h ∷ is) = Some (steps.CallHook (record { number = z; hook = h }), is)
step_at _ = None
