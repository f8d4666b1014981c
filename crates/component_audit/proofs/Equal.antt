-- What the tests of types say: that the types are equal.
use Rattle.std.proofs.Common.{◌≡◌, Bool, ◌&&◌, List, [], ◌∷◌, Option, Some, None, refl, sym, ap, ◌∙◌}
use Rattle.std.specs.Prelude.{slice_get, bytes_eq, ◌==◌}
use Rattle.std.specs.Bool.{Decides}
use Rattle.std.specs.Cmp.Lexicographic.{pointwise}
use Rattle.std.proofs.lemmas.Bool.{and_parts, and_from}
use Rattle.std.proofs.lemmas.Bool.Decides.{Decides-eqb}
use Rattle.std.proofs.lemmas.Slice.Eq.{slice_eq-Decides, bytes_eq-Decides}
use Rattle.std.proofs.lemmas.Option.{same_Some}
use Rattle.wasm_types.specs.declared.types.ValType.{ValType}
use Rattle.wasm_types.specs.declared.types.ValType.TheVariants as values
use Rattle.wasm_types.specs.declared.types.RefType.TheVariants as references
use Rattle.wasm_types.specs.Types.{FuncTypeValue}
use Rattle.plain_worlds.specs.declared.world.PrimitiveType.{PrimitiveType}
use Rattle.plain_worlds.specs.declared.world.PrimitiveType.TheVariants as primitives
use Rattle.plain_worlds.specs.World.{ParameterValue, FunctionTypeValue}
use Rattle.wit_component.specs.Meaning.{value_code, same_values, same_core_type, type_code, same_parameter, same_result, same_type}

-- two tests of two facts
pub both_decide : {P Q R : Type 0} (a b : Bool) → Decides a P → Decides b Q → (P → Q → R) → (R → P × Q) → Decides (a && b) R
both_decide a b da db make parts = (
  λ h. let p = and_parts a b h in make (da.0 p.0) (db.0 p.1),
  λ r. and_from a b (da.1 (parts r).0) (db.1 (parts r).1),
)

-- ---- codes tell the variants apart

abbrev all_values : List ValType
all_values = values.I32 ∷ values.I64 ∷ values.F32 ∷ values.F64 ∷ values.V128 ∷ values.Ref references.FuncRef ∷ values.Ref references.ExternRef ∷ []

value_there : (v : ValType) → slice_get all_values (value_code v) ≡ Some v
value_there values.I32 = refl
value_there values.I64 = refl
value_there values.F32 = refl
value_there values.F64 = refl
value_there values.V128 = refl
value_there (values.Ref references.FuncRef) = refl
value_there (values.Ref references.ExternRef) = refl

value_decides : (a b : ValType) → Decides (value_code a == value_code b) (a ≡ b)
value_decides a b = (
  λ h. same_Some a b (sym (value_there a) ∙ ap (slice_get all_values) ((Decides-eqb (value_code a) (value_code b)).0 h) ∙ value_there b),
  λ e. (Decides-eqb (value_code a) (value_code b)).1 (ap value_code e),
)

abbrev all_types : List PrimitiveType
all_types = primitives.Bool ∷ primitives.S8 ∷ primitives.U8 ∷ primitives.S16 ∷ primitives.U16 ∷ primitives.S32 ∷ primitives.U32 ∷ primitives.S64 ∷ primitives.U64 ∷ []

type_there : (t : PrimitiveType) → slice_get all_types (type_code t) ≡ Some t
type_there primitives.Bool = refl
type_there primitives.S8 = refl
type_there primitives.U8 = refl
type_there primitives.S16 = refl
type_there primitives.U16 = refl
type_there primitives.S32 = refl
type_there primitives.U32 = refl
type_there primitives.S64 = refl
type_there primitives.U64 = refl

type_decides : (a b : PrimitiveType) → Decides (type_code a == type_code b) (a ≡ b)
type_decides a b = (
  λ h. same_Some a b (sym (type_there a) ∙ ap (slice_get all_types) ((Decides-eqb (type_code a) (type_code b)).0 h) ∙ type_there b),
  λ e. (Decides-eqb (type_code a) (type_code b)).1 (ap type_code e),
)

-- ---- core types

values_decide : (vs ws : List ValType) → Decides (same_values vs ws) (vs ≡ ws)
values_decide vs ws = slice_eq-Decides value_decides vs ws (same_values vs ws) refl

pub core_type_decides : (a b : FuncTypeValue) → Decides (same_core_type a b) (a ≡ b)
core_type_decides a b = both_decide (same_values a.params b.params) (same_values a.results b.results) (values_decide a.params b.params) (values_decide a.results b.results)
    (λ p q i. record { params = p i; results = q i }) (λ e. (ap (λ (t : FuncTypeValue). t.params) e, ap (λ (t : FuncTypeValue). t.results) e))

-- ---- types of functions

parameter_decides : (a b : ParameterValue) → Decides (same_parameter a b) (a ≡ b)
parameter_decides a b = both_decide (bytes_eq a.name b.name) (type_code a.ty == type_code b.ty) (bytes_eq-Decides a.name b.name) (type_decides a.ty b.ty)
    (λ p q i. record { name = p i; ty = q i }) (λ e. (ap (λ (x : ParameterValue). x.name) e, ap (λ (x : ParameterValue). x.ty) e))

result_decides : (a b : Option PrimitiveType) → Decides (same_result a b) (a ≡ b)
result_decides None None = (λ h. refl, λ e. refl)
result_decides None (Some q) = (λ h. absurd cc, λ e. absurd cc)
result_decides (Some p) None = (λ h. absurd cc, λ e. absurd cc)
result_decides (Some p) (Some q) = (λ h. ap (λ (t : PrimitiveType). Some t) ((type_decides p q).0 h), λ e. (type_decides p q).1 (same_Some p q e))

pub type_of_function_decides : (a b : FunctionTypeValue) → Decides (same_type a b) (a ≡ b)
type_of_function_decides a b = both_decide (pointwise same_parameter a.params b.params) (same_result a.result b.result)
    (slice_eq-Decides parameter_decides a.params b.params (pointwise same_parameter a.params b.params) refl) (result_decides a.result b.result)
    (λ p q i. record { params = p i; result = q i }) (λ e. (ap (λ (t : FunctionTypeValue). t.params) e, ap (λ (t : FunctionTypeValue). t.result) e))
