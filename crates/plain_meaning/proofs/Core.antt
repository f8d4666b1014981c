-- Core types and core items.
use Rattle.std.proofs.Common.{◌≡◌, ℕ, List, [], ◌&&◌, Option, Some, None, refl, sym, ap, ◌∙◌, inl, inr}
use Rattle.std.specs.Prelude.{map, slice_get, option_map, option_and_then, ◌==◌}
use Rattle.std.specs.Cmp.Lexicographic.{pointwise}
use Rattle.std.proofs.lemmas.Bool.{cases_Bool}
use Rattle.std.proofs.lemmas.Option.{same_Some, slice_get-map}
use Rattle.wasm_types.specs.declared.types.ValType.{ValType}
use Rattle.wasm_types.specs.declared.types.ValType.TheVariants as values
use Rattle.wasm_types.specs.declared.types.RefType.TheVariants as references
use Rattle.wasm_types.specs.declared.types.ExportKind.{ExportKind}
use Rattle.wasm_types.specs.declared.types.ExportKind.TheVariants as kinds
use Rattle.wasm_types.specs.Types.{FuncTypeValue}
use Rattle.wit_component.specs.Meaning as plain
use Rattle.wit_component.specs.Meaning.{CoreFunction, ComponentFunction}
use Rattle.component_meaning.specs.Core as cores
use Rattle.component_meaning.specs.Core.{CoreType, CoreOrigin, CoreItem, of_function, of_kind}
use Rattle.component_meaning.specs.Spaces as full
use Rattle.component_meaning.specs.Spaces.{if_of_kind}
use Rattle.right_components.specs.Main.{core_type}
use Rattle.plain_meaning.specs.Seen.{function_item, core_item}
use Rattle.plain_meaning.proofs.Lists.{item_of_map}
use Rattle.plain_meaning.proofs.Trees.{flat_function}

-- ---- core types

same_code : (v : ValType) → cores.value_code v ≡ plain.value_code v
same_code values.I32 = refl
same_code values.I64 = refl
same_code values.F32 = refl
same_code values.F64 = refl
same_code values.V128 = refl
same_code (values.Ref references.FuncRef) = refl
same_code (values.Ref references.ExternRef) = refl

same_test : (vs ws : List ValType) → cores.same_values vs ws ≡ plain.same_values vs ws
same_test vs ws = λ i. pointwise (λ a b. same_code a i == same_code b i) vs ws

same_core_types : (a b : FuncTypeValue) → cores.same_function_type a b ≡ plain.same_core_type a b
same_core_types a b =
    let params = same_test a.params b.params in
    let results = same_test a.results b.results in
    λ i. params i && results i

-- ---- what is asked for

-- a function is given where a function of the same type is asked for
given_function : (t : Option FuncTypeValue) (kind : ExportKind) (c : CoreFunction) → full.if_matches (core_type t kind) (Some (core_item c)) ≡ option_map core_item (plain.if_matches t (Some c))
given_function None kind c = refl
given_function (Some a) kind c = elim (cases_Bool (plain.same_core_type a c.ty)) [
  | inl same ↦ rw (same_core_types a c.ty, same) refl
  | inr other ↦ rw (same_core_types a c.ty, other) refl
]

none_given : (t : Option FuncTypeValue) → plain.if_matches t None ≡ None
none_given None = refl
none_given (Some a) = refl

-- nothing else is given
given_another : (t : Option FuncTypeValue) (kind : ExportKind) (o : CoreOrigin) (k : ExportKind) → full.if_matches (core_type t kind) (Some (record { origin = o; ty = of_kind k })) ≡ None
given_another None kind o k = refl
given_another (Some a) kind o k = refl

given_item : (t : Option FuncTypeValue) (kind : ExportKind) (o : CoreOrigin) (ty : CoreType) (y : Option CoreFunction)
    → if_of_kind kinds.Func (Some (record { origin = o; ty = ty })) ≡ option_map core_item y
    → full.if_matches (core_type t kind) (Some (record { origin = o; ty = ty })) ≡ option_map core_item (plain.if_matches t y)
given_item t kind o (of_function b) None h = absurd cc
given_item t kind o (of_function b) (Some c) h = ap (full.if_matches (core_type t kind)) h ∙ given_function t kind c
given_item t kind o (of_kind kinds.Func) None h = absurd cc
given_item t kind o (of_kind kinds.Func) (Some c) h =
    let e : of_kind kinds.Func ≡ of_function c.ty = ap (λ (x : CoreItem). x.ty) (same_Some (record { origin = o; ty = of_kind kinds.Func }) (core_item c) h) in
    absurd cc
given_item t kind o (of_kind kinds.Table) None h = given_another t kind o kinds.Table ∙ ap (option_map core_item) (sym (none_given t))
given_item t kind o (of_kind kinds.Table) (Some c) h = absurd cc
given_item t kind o (of_kind kinds.Memory) None h = given_another t kind o kinds.Memory ∙ ap (option_map core_item) (sym (none_given t))
given_item t kind o (of_kind kinds.Memory) (Some c) h = absurd cc
given_item t kind o (of_kind kinds.Global) None h = given_another t kind o kinds.Global ∙ ap (option_map core_item) (sym (none_given t))
given_item t kind o (of_kind kinds.Global) (Some c) h = absurd cc

-- where what is there is the same, so is what is given
pub given_same : (t : Option FuncTypeValue) (kind : ExportKind) (x : Option CoreItem) (y : Option CoreFunction) → if_of_kind kinds.Func x ≡ option_map core_item y
    → full.if_matches (core_type t kind) x ≡ option_map core_item (plain.if_matches t y)
given_same t kind None None h = ap (option_map core_item) (sym (none_given t))
given_same t kind None (Some c) h = absurd cc
given_same t kind (Some x) y h = given_item t kind x.origin x.ty y h

-- ---- core functions

pub is_function : (o : Option CoreFunction) → if_of_kind kinds.Func (option_map core_item o) ≡ option_map core_item o
is_function None = refl
is_function (Some c) = refl

pub core_found : (fs : List (Option CoreFunction)) (i : ℕ) → option_and_then (λ x. x) (slice_get (map (option_map core_item) fs) i) ≡ option_map core_item (plain.item_at fs i)
core_found fs i = rw (slice_get-map (option_map core_item) fs i) (item_of_map core_item (slice_get fs i))

pub lowered : (f : ℕ) (o : Option ComponentFunction) → full.lowering f [] (function_item o) ≡ option_map core_item (option_map (plain.lowering f) o)
lowered f None = refl
lowered f (Some g) = let e = flat_function g.ty in λ i. Some (record { origin = cores.of_lower f []; ty = of_function (e i) })
