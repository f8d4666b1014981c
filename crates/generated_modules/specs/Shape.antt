-- Generated modules: what their functions do, and how all of a module hangs together.
use Rattle.std.specs.Prelude.{◌≡◌, ℕ, zero, suc, ℤ, pos, negsuc, ◌-◌, ◌<◌, List, [], ◌∷◌, ◌++◌, map, flat_map, length, slice_get, Option, Some, None, option_and_then, unwrap_or, Bool, true, false, nat_lt, nat_le, ◌==◌, ◌&&◌, if◌then◌else◌}
use Rattle.std.specs.List.{list_all, list_any}
use Rattle.std.specs.Cmp.Lexicographic.{pointwise}
use Rattle.binary_grammar.specs.Syntax.{meaning}
use Rattle.wasm_types.specs.declared.types.ValType.{ValType}
use Rattle.wasm_types.specs.declared.types.ValType.TheVariants as values
use Rattle.wasm_types.specs.declared.types.ExportKind.TheVariants as kinds
use Rattle.wasm_types.specs.Types.{FuncTypeValue, val_type_byte, mutability_byte}
use Rattle.wasm_types.specs.Entries.{ExportValue}
use Rattle.distinct_names.specs.Names.{all_new}
use Rattle.wasm_bodies.specs.declared.instructions.BodyInstruction.{BodyInstruction}
use Rattle.wasm_bodies.specs.declared.generated.HookCall.{HookCall}
use Rattle.wasm_bodies.specs.declared.generated.StartStep.{StartStep}
use Rattle.wasm_bodies.specs.declared.generated.StartStep.TheVariants as steps
use Rattle.wasm_bodies.specs.Generated.{BodyShape, trap_stub, table_stand_in, reference_stand_in, hooked_call, start_code, IsBody, IsStartCode, body_shape}
use Rattle.wasm_bodies.specs.Segments.{ElementValue, active, active_in, declared, functions_in}
use Rattle.generated_sections.specs.declared.types.Held.TheVariants as helds
use Rattle.generated_sections.specs.declared.types.HeldGlobal.{HeldGlobal}
use Rattle.generated_sections.specs.declared.types.SlotGlobal.{SlotGlobal}
use Rattle.wasm_sections.specs.Module.{nothing}
use Rattle.generated_sections.specs.Sections.{SectionValue, file}
use Rattle.generated_modules.specs.Parts.{PartsValue, parts_of, parts_value}
use Rattle.generated_modules.specs.declared.module.GeneratedModule.{GeneratedModule}

-- a module, and what each of its own functions does
pub record Shape : Type 0 where
  pub parts : PartsValue
  pub bodies : List BodyShape

-- ---- types

abbrev pub same_values : List ValType → List ValType → Bool
same_values = pointwise (λ a b. val_type_byte a == val_type_byte b)

abbrev pub same_function : FuncTypeValue → FuncTypeValue → Bool
same_function a b = same_values a.params b.params && same_values a.results b.results

-- something is there that is of this type
abbrev pub is_type : Option FuncTypeValue → FuncTypeValue → Bool
is_type None t = false
is_type (Some u) t = same_function u t

abbrev pub type_at : PartsValue → ℕ → Option FuncTypeValue
type_at p t = slice_get p.types t

-- the type of a function
abbrev pub type_of : PartsValue → ℕ → Option FuncTypeValue
type_of p f = option_and_then (type_at p) (slice_get p.function_space f)

-- from nothing to nothing
abbrev pub plain_type : FuncTypeValue
plain_type = record { params = []; results = [] }

-- from a number to nothing
abbrev pub hook_type : FuncTypeValue
hook_type = record { params = values.I32 ∷ []; results = [] }

-- ---- slots

abbrev pub first_size : PartsValue → ℕ
first_size p = elim (slice_get p.table_space 0) [ None ↦ 0 | Some t ↦ t.size ]

-- a slot of the first table
abbrev pub is_slot : PartsValue → ℤ → Bool
is_slot p (pos n) = nat_lt n (first_size p)
is_slot p (negsuc n) = false

-- the global refers to functions of this type
abbrev pub held_is : PartsValue → FuncTypeValue → Option HeldGlobal → Bool
held_is p t None = false
held_is p t (Some g) = elim g.held [ helds.Value v ↦ false | helds.Reference u ↦ is_type (type_at p u) t ]

abbrev pub refers_to : PartsValue → ℕ → FuncTypeValue → Bool
refers_to p g t = held_is p t (slice_get p.global_space g)

abbrev pub can_change : Option HeldGlobal → Bool
can_change None = false
can_change (Some g) = mutability_byte g.mutability == 1

-- ---- functions that stand in an export, a segment or a global

abbrev pub exported_in : ExportValue → List ℕ
exported_in e = elim e.kind [ kinds.Func ↦ e.index ∷ [] | kinds.Table ↦ [] | kinds.Memory ↦ [] | kinds.Global ↦ [] ]

abbrev pub named : PartsValue → List ℕ
named p = flat_map exported_in p.exports ++ flat_map functions_in p.elements ++ map (λ g. g.stub) p.globals

abbrev pub is_named : PartsValue → ℕ → Bool
is_named p f = list_any (λ g. g == f) (named p)

-- with a mark at this function, if it is there
abbrev pub with_mark : List Bool → ℕ → List Bool
with_mark [] g = []
with_mark (m ∷ ms) zero = true ∷ ms
with_mark (m ∷ ms) (suc g) = m ∷ with_mark ms g

-- whether each function is one of these
abbrev pub AreMarks : PartsValue → List Bool → Type 0
AreMarks p marks = (f : ℕ) → f < length p.function_space → slice_get marks f ≡ Some (is_named p f)

-- ---- bodies

abbrev pub is_hook : PartsValue → Option HookCall → Bool
is_hook p None = true
is_hook p (Some h) = is_type (type_of p h.hook) hook_type

-- the function goes into a global of its type
abbrev pub goes_into : PartsValue → ℕ → Option FuncTypeValue → Bool
goes_into p g None = false
goes_into p g (Some t) = refers_to p g t && can_change (slice_get p.global_space g)

abbrev pub step_fits : PartsValue → StartStep → Bool
step_fits p (steps.InitGlobal f g) = goes_into p g (type_of p f) && is_named p f
step_fits p (steps.Call f) = is_type (type_of p f) plain_type
step_fits p (steps.CallHook h) = is_type (type_of p h.hook) hook_type

-- what a body of a function of this type names has its type
abbrev pub body_fits : PartsValue → FuncTypeValue → BodyShape → Bool
body_fits p t trap_stub = true
body_fits p t (table_stand_in slot u) = is_type (type_at p u) t && is_slot p slot
body_fits p t (reference_stand_in g u) = is_type (type_at p u) t && refers_to p g t
body_fits p t (hooked_call before f after) = is_hook p before && (is_type (type_of p f) t && is_hook p after)
body_fits p t (start_code ss) = same_function t plain_type && list_all (step_fits p) ss

-- ---- globals, segments, the start

abbrev pub is_trap : Option BodyShape → Bool
is_trap (Some trap_stub) = true
is_trap _ = false

-- own functions stand behind imported ones
abbrev pub imported : PartsValue → ℕ
imported p = length p.function_space - length p.functions

abbrev pub own_place : PartsValue → ℕ → Option ℕ
own_place p f = if nat_lt f (imported p) then None else Some (f - imported p)

abbrev pub own_body : Shape → ℕ → Option BodyShape
own_body s f = option_and_then (slice_get s.bodies) (own_place s.parts f)

abbrev pub same_types : Option FuncTypeValue → Option FuncTypeValue → Bool
same_types None u = false
same_types (Some t) u = is_type u t

-- a slot begins at a trap stub of its type
abbrev pub slot_fits : Shape → SlotGlobal → Bool
slot_fits s g = is_trap (own_body s g.stub) && same_types (type_at s.parts g.ty) (type_of s.parts g.stub)

abbrev pub is_zero : ℤ → Bool
is_zero (pos n) = n == 0
is_zero (negsuc n) = false

-- a segment begins the first table, and is no longer than it
abbrev pub element_fits : PartsValue → ElementValue → Bool
element_fits p (active z fs) = is_zero z && elim (slice_get p.table_space 0) [ None ↦ false | Some t ↦ nat_le (length fs) t.size ]
element_fits p (active_in t z fs) = false
element_fits p (declared fs) = true

abbrev pub start_fits : PartsValue → Bool
start_fits p = elim p.start [ None ↦ true | Some f ↦ is_type (type_of p f) plain_type ]

-- ---- modules

-- what an own function does: it is start code where the module starts with it, and nothing else is
abbrev pub Does : Bool → ℕ → List BodyInstruction → BodyShape → Type 0
Does true n is (start_code ss) = IsStartCode is ss
Does true n is _ = ⊥
Does false n is b = IsBody n is b

abbrev pub is_place : ℕ → Option ℕ → Bool
is_place k None = false
is_place k (Some i) = i == k

-- the module starts with its own function at this place
abbrev pub starts_at : PartsValue → ℕ → Bool
starts_at p k = is_place k (option_and_then (own_place p) p.start)

-- an own function of this type, by its place and its instructions
abbrev pub IsOwn : PartsValue → ℕ → Option FuncTypeValue → List BodyInstruction → BodyShape → Type 0
IsOwn p k None is b = ⊥
IsOwn p k (Some t) is b = Does (starts_at p k) (length t.params) is b × (body_fits p t b ≡ true)

-- the type and the instructions of the own function at a place
abbrev pub function_at : PartsValue → ℕ → Option FuncTypeValue
function_at p k = type_at p (unwrap_or (slice_get p.functions k) 0)

abbrev pub code_at : PartsValue → ℕ → List BodyInstruction
code_at p k = unwrap_or (slice_get p.code k) []

-- each own function, from this one on
abbrev pub AreOwn : PartsValue → ℕ → List ℕ → List (List BodyInstruction) → List BodyShape → Type 0
AreOwn p k [] [] [] = Unit {0}
AreOwn p k (t ∷ ts) (is ∷ iss) (b ∷ bs) = IsOwn p k (type_at p t) is b × AreOwn p (suc k) ts iss bs
AreOwn p k _ _ _ = ⊥

-- globals, segments and the start fit, and names are distinct
abbrev pub hangs_together : Shape → Bool
hangs_together s =
    list_all (slot_fits s) s.parts.globals && (list_all (element_fits s.parts) s.parts.elements && (start_fits s.parts && all_new [] (map (λ e. e.name) s.parts.exports)))

-- this is a module of these parts, and hangs together
pub record IsShape (p : PartsValue) (s : Shape) : Type 0 where
  pub parts : s.parts ≡ p
  pub bodies : AreOwn p 0 p.functions p.code s.bodies
  pub hangs : hangs_together s ≡ true

-- the bytes are a generated module of this shape
pub record IsGenerated (bytes : List ℕ) (s : Shape) : Type 0 where
  pub sections : List SectionValue
  pub are : (meaning file nothing).form bytes sections
  pub shape : IsShape (parts_of sections) s

abbrev pub shape_value : GeneratedModule → Shape
shape_value m = record { parts = parts_value m.parts; bodies = map body_shape m.bodies.items }
