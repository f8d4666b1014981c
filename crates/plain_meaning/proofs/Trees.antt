-- Trees of plain types: equal ones are of equal types, and they have the same core types.
use Rattle.std.proofs.Common.{◌≡◌, ℕ, List, [], ◌∷◌, length, Bool, true, false, Option, Some, None, refl, sym, ap, ◌∙◌}
use Rattle.std.specs.Prelude.{map, nat_le, not, slice_get, option_map, if◌then◌else◌}
use Rattle.std.specs.Bool.{Decides}
use Rattle.std.proofs.lemmas.List.{length-map}
use Rattle.std.proofs.lemmas.Bool.Decides.{same_from_decides}
use Rattle.std.proofs.lemmas.Option.{same_Some, slice_get-map}
use Rattle.wasm_types.specs.declared.types.ValType.{ValType}
use Rattle.wasm_types.specs.declared.types.ValType.TheVariants.{I32}
use Rattle.wit_types.specs.declared.mangling.AbiVariant.TheVariants.{GuestImport}
use Rattle.component_value_types.specs.declared.values.ValueType.{ValueType}
use Rattle.component_value_types.specs.Types.{NamedTypeValue, function}
use Rattle.plain_worlds.specs.declared.world.PrimitiveType.{PrimitiveType}
use Rattle.plain_worlds.specs.declared.world.PrimitiveType.TheVariants as primitives
use Rattle.plain_worlds.specs.World.{ParameterValue, FunctionTypeValue}
use Rattle.known_definitions.specs.Known.{primitive_value, value_type, named_parameter, function_type}
use Rattle.wit_component.specs.Flat.{flat_value, flat_result, flat_params, flat as flat_type}
use Rattle.wit_component.specs.Meaning.{same_type}
use Rattle.component_audit.proofs.Equal.{type_of_function_decides}
use Rattle.flat_types.specs.Signature.{params_with}
use Rattle.flat_trees.specs.Flat.{flat, flat_parts, in_order, signature, core_type}
use Rattle.type_meaning.specs.Tree as trees
use Rattle.type_meaning.specs.Tree.{Kind, function_kind, Form, Parts, of, none, gap, part, same_tree}
use Rattle.type_meaning.specs.Words.{Label, Resource, BinaryTree, same_label, same_resource, bare, bare_parts}
use Rattle.type_meaning.specs.Syntax.{primitive_kind, plain, labelled, names_of}
use Rattle.type_meaning.specs.Items.{Item, or_nothing, parts_in, type_if, type_at, type_item as defined_item, is_function}
use Rattle.type_meaning.specs.Scope.{is_same}
use Rattle.type_meaning.proofs.TreeLaws.{tree_decides}
use Rattle.type_meaning.proofs.Labels.{label_decides, resource_decides}
use Rattle.plain_meaning.specs.Trees.{primitive_tree, parameter_parts, with_result, function_tree}
use Rattle.plain_meaning.specs.Seen.{type_item}
use Rattle.plain_meaning.proofs.Lists.{map_twice}

-- ---- no names stand over them

bare_parameters : (ps : List ParameterValue) → bare_parts (parameter_parts ps) ≡ parameter_parts ps
bare_parameters [] = refl
bare_parameters (p ∷ ps) = ap (λ more. part (primitive_tree p.ty) more) (bare_parameters ps)

bare_result : (r : Option PrimitiveType) (ps : Parts Label Resource) → bare_parts ps ≡ ps → bare_parts (with_result r ps) ≡ with_result r ps
bare_result None ps e = ap (λ more. gap more) e
bare_result (Some p) ps e = ap (λ more. part (primitive_tree p) more) e

bare_function : (t : FunctionTypeValue) → bare (function_tree t) ≡ function_tree t
bare_function t = ap (λ ps. of (labelled function_kind (map (λ p. p.name) t.params)) ps) (bare_result t.result (parameter_parts t.params) (bare_parameters t.params))

-- ---- equal trees are of equal types

abbrev primitive_at : Kind → Option PrimitiveType
primitive_at trees.bool = Some primitives.Bool
primitive_at trees.s8 = Some primitives.S8
primitive_at trees.u8 = Some primitives.U8
primitive_at trees.s16 = Some primitives.S16
primitive_at trees.u16 = Some primitives.U16
primitive_at trees.s32 = Some primitives.S32
primitive_at trees.u32 = Some primitives.U32
primitive_at trees.s64 = Some primitives.S64
primitive_at trees.u64 = Some primitives.U64
primitive_at _ = None

primitive_there : (p : PrimitiveType) → primitive_at (primitive_kind (primitive_value p)) ≡ Some p
primitive_there primitives.Bool = refl
primitive_there primitives.S8 = refl
primitive_there primitives.U8 = refl
primitive_there primitives.S16 = refl
primitive_there primitives.U16 = refl
primitive_there primitives.S32 = refl
primitive_there primitives.U32 = refl
primitive_there primitives.S64 = refl
primitive_there primitives.U64 = refl

-- what a tree says of itself
abbrev form_of : BinaryTree → Form
form_of (of form ps) = form
form_of _ = plain trees.bool

abbrev parts_of : BinaryTree → Parts Label Resource
parts_of (of form ps) = ps
parts_of _ = none

primitive_is : (p q : PrimitiveType) → primitive_tree p ≡ primitive_tree q → p ≡ q
primitive_is p q e = same_Some p q (sym (primitive_there p) ∙ ap (λ t. primitive_at (form_of t).kind) e ∙ primitive_there q)

parameters_are : (ps qs : List ParameterValue) → map (λ p. p.name) ps ≡ map (λ p. p.name) qs → parameter_parts ps ≡ parameter_parts qs → ps ≡ qs
parameters_are [] [] names parts = refl
parameters_are [] (q ∷ qs) names parts = absurd cc
parameters_are (p ∷ ps) [] names parts = absurd cc
parameters_are (p ∷ ps) (q ∷ qs) names parts =
    let name : p.name ≡ q.name = cc in
    let tree : primitive_tree p.ty ≡ primitive_tree q.ty = cc in
    let ty = primitive_is p.ty q.ty tree in
    let others : map (λ (p : ParameterValue). p.name) ps ≡ map (λ (p : ParameterValue). p.name) qs = cc in
    let more : parameter_parts ps ≡ parameter_parts qs = cc in
    let rest = parameters_are ps qs others more in
    λ i. record { name = name i; ty = ty i } ∷ rest i

result_is : (r s : Option PrimitiveType) (ps qs : Parts Label Resource) → with_result r ps ≡ with_result s qs → (r ≡ s) × (ps ≡ qs)
result_is None None ps qs e = (refl, cc)
result_is None (Some q) ps qs e = absurd cc
result_is (Some p) None ps qs e = absurd cc
result_is (Some p) (Some q) ps qs e =
    let tree : primitive_tree p ≡ primitive_tree q = cc in
    (ap (λ (t : PrimitiveType). Some t) (primitive_is p q tree), cc)

pub type_is : (a b : FunctionTypeValue) → function_tree a ≡ function_tree b → a ≡ b
type_is a b e =
    let names : map (λ (p : ParameterValue). p.name) a.params ≡ map (λ (p : ParameterValue). p.name) b.params = ap (λ t. (form_of t).labels) e in
    let parts = result_is a.result b.result (parameter_parts a.params) (parameter_parts b.params) (ap parts_of e) in
    let params = parameters_are a.params b.params names parts.1 in
    let result = parts.0 in
    λ i. record { params = params i; result = result i }

-- ---- the tests of types say the same

bare_same : (a b : FunctionTypeValue) → is_same (function_tree a) (function_tree b) ≡ same_tree same_label same_resource (function_tree a) (function_tree b)
bare_same a b =
    let e = bare_function a in
    let d = bare_function b in
    λ i. same_tree same_label same_resource (e i) (d i)

is_same_decides : (a b : FunctionTypeValue) → Decides (is_same (function_tree a) (function_tree b)) (a ≡ b)
is_same_decides a b =
    let trees_decide = tree_decides same_label same_resource label_decides resource_decides (function_tree a) (function_tree b) in (
      λ h. type_is a b (trees_decide.0 (sym (bare_same a b) ∙ h)),
      λ e. bare_same a b ∙ trees_decide.1 (ap function_tree e),
    )

pub same_types : (a b : FunctionTypeValue) → is_same (function_tree a) (function_tree b) ≡ same_type a b
same_types a b = same_from_decides (is_same (function_tree a) (function_tree b)) (same_type a b) (is_same_decides a b) (type_of_function_decides a b)

pub same_tree_if : (a b : FunctionTypeValue) → same_type a b ≡ true → function_tree a ≡ function_tree b
same_tree_if a b h = ap function_tree ((type_of_function_decides a b).0 h)

-- ---- core types

flat_one : (p : PrimitiveType) → flat (primitive_tree p) ≡ flat_value p ∷ []
flat_one primitives.Bool = refl
flat_one primitives.S8 = refl
flat_one primitives.U8 = refl
flat_one primitives.S16 = refl
flat_one primitives.U16 = refl
flat_one primitives.S32 = refl
flat_one primitives.U32 = refl
flat_one primitives.S64 = refl
flat_one primitives.U64 = refl

flat_parameters : (ps : List ParameterValue) → in_order (flat_parts (parameter_parts ps)) ≡ map (λ p. flat_value p.ty) ps
flat_parameters [] = refl
flat_parameters (p ∷ ps) = rw (flat_one p.ty, flat_parameters ps) refl

within_limit : (few : Bool) (vs : List ValType) → params_with (not few) vs ≡ (if few then vs else I32 ∷ [])
within_limit true vs = refl
within_limit false vs = refl

limited : (ps : List ParameterValue) (vs : List ValType) → vs ≡ map (λ p. flat_value p.ty) ps → params_with (not (nat_le (length vs) 16)) vs ≡ flat_params ps
limited ps vs e = rw (e, length-map ps (λ p. flat_value p.ty)) (within_limit (nat_le (length ps) 16) (map (λ p. flat_value p.ty) ps))

pub flat_function : (t : FunctionTypeValue) → core_type (signature GuestImport (function_tree t)) ≡ flat_type t
flat_function t = go t.result
  where
    go : (r : Option PrimitiveType) → core_type (signature GuestImport (of (labelled function_kind (map (λ p. p.name) t.params)) (with_result r (parameter_parts t.params)))) ≡ record { params = flat_params t.params; results = flat_result r }
    go None = let e = limited t.params (in_order (flat_parts (parameter_parts t.params))) (flat_parameters t.params) in λ i. record { params = e i; results = [] }
    go (Some p) = let e = limited t.params (in_order (flat_parts (parameter_parts t.params))) (flat_parameters t.params) in rw (flat_one p) (λ i. record { params = e i; results = flat_value p ∷ [] })

-- ---- what is defined stands for its tree

parameters_in : (types : List Item) (ps : List ParameterValue) → parts_in function_kind types (map (λ (p : NamedTypeValue). Some p.item) (map named_parameter ps)) ≡ Some (parameter_parts ps)
parameters_in types [] = refl
parameters_in types (p ∷ ps) = rw (parameters_in types ps) refl

result_in : (types : List Item) (r : Option PrimitiveType) (more : List (Option ValueType)) (ps : Parts Label Resource) → parts_in function_kind types more ≡ Some ps
    → parts_in function_kind types (option_map value_type r ∷ more) ≡ Some (with_result r ps)
result_in types None more ps e = rw e refl
result_in types (Some p) more ps e = rw e refl

pub type_defined : (types : List Item) (t : FunctionTypeValue) → defined_item types (function (function_type t)) ≡ type_item t
type_defined types t =
    let parts = result_in types t.result (map (λ (p : NamedTypeValue). Some p.item) (map named_parameter t.params)) (parameter_parts t.params) (parameters_in types t.params) in
    let names : names_of (map named_parameter t.params) ≡ map (λ p. p.name) t.params = map_twice named_parameter (λ (p : NamedTypeValue). p.name) t.params in
    rw (parts, names) refl

-- ---- and is looked up as one

seen_type : (o : Option FunctionTypeValue) → type_if is_function (or_nothing (option_map type_item o)) ≡ option_map function_tree o
seen_type None = refl
seen_type (Some t) = refl

pub type_found : (ts : List FunctionTypeValue) (i : ℕ) → type_at is_function (map type_item ts) i ≡ option_map function_tree (slice_get ts i)
type_found ts i = rw (slice_get-map type_item ts i) (seen_type (slice_get ts i))
