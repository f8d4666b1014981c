-- A known definition is known as itself, and what is known stands for one definition.
use Rattle.std.proofs.Common.{◌≡◌, ℕ, List, [], ◌∷◌, map, Option, Some, None, refl, sym, ap, ◌∙◌}
use Rattle.std.specs.Prelude.{option_map}
use Rattle.wasm_types.specs.declared.types.ExportKind.{ExportKind}
use Rattle.wasm_types.specs.declared.types.ExportKind.TheVariants as kinds
use Rattle.component_value_types.specs.declared.values.PrimitiveValueType.{PrimitiveValueType}
use Rattle.component_value_types.specs.declared.values.PrimitiveValueType.TheVariants as types
use Rattle.component_value_types.specs.declared.values.ValueType.{ValueType}
use Rattle.component_value_types.specs.declared.values.ValueType.TheVariants as values
use Rattle.component_value_types.specs.Combinators.{NamedValue}
use Rattle.component_value_types.specs.Types as typed
use Rattle.component_value_types.specs.Types.{DefinedTypeValue, function}
use Rattle.component_definitions.specs.declared.sorts.ComponentSort.TheVariants as components
use Rattle.component_definitions.specs.declared.sorts.Sort.{Sort}
use Rattle.component_definitions.specs.declared.sorts.Sort.TheVariants as sorts
use Rattle.component_definitions.specs.declared.externs.Description.{Description}
use Rattle.component_definitions.specs.declared.externs.Description.TheVariants as descriptions
use Rattle.component_definitions.specs.Aliases.{AliasValue, core_instance_export, instance_export, outer}
use Rattle.component_definitions.specs.Canonical.{CanonicalValue, lift, lower, resource_new, resource_drop, resource_rep}
use Rattle.component_instances.specs.declared.instances.CoreItem.{CoreItem}
use Rattle.component_instances.specs.Instances.{CoreInstanceValue, core_instantiate, core_inline}
use Rattle.component_instances.specs.TypeDefinitions.{defined, resource, of_instance}
use Rattle.component_sections.specs.Passed.component_entries-Entries.{an_alias, a_type, an_import, an_export}
use Rattle.component_sections.specs.Component as whole
use Rattle.component_sections.specs.Component.{a_core_module, a_core_instance, a_component, an_instance, a_canonical, an_entry}
use Rattle.plain_worlds.specs.declared.world.PrimitiveType.{PrimitiveType}
use Rattle.plain_worlds.specs.declared.world.PrimitiveType.TheVariants as primitives
use Rattle.plain_worlds.specs.World.{ParameterValue, FunctionTypeValue, each_of}
use Rattle.known_definitions.specs.Definition.{InlineExportValue, DefinitionValue, core_module_of, instantiation_of, inline_of, alias_of, type_of, lift_of, lower_of, import_of, export_of}
use Rattle.known_definitions.specs.Known.{primitive_value, value_type, named_parameter, function_type, named_argument, named_function, a_function, definition_of, if_function, known_primitive, known_type, known_parameter, known_result, typed_function, known_function_type, known_argument, known_export, known_core_instance, known_canonical, known_alias, known_defined, described_import, described_export, sorted_export, known_of}
use Rattle.known_definitions.proofs.Lists.{some_is, each_again, each_back, map_again}

-- ---- a known definition is known as itself

primitive_again : (p : PrimitiveType) → known_primitive (primitive_value p) ≡ Some p
primitive_again primitives.Bool = refl
primitive_again primitives.S8 = refl
primitive_again primitives.U8 = refl
primitive_again primitives.S16 = refl
primitive_again primitives.U16 = refl
primitive_again primitives.S32 = refl
primitive_again primitives.U32 = refl
primitive_again primitives.S64 = refl
primitive_again primitives.U64 = refl

parameter_again : (p : ParameterValue) → known_parameter (named_parameter p) ≡ Some p
parameter_again p = rw (primitive_again p.ty) refl

result_again : (r : Option PrimitiveType) → known_result (option_map value_type r) ≡ Some r
result_again None = refl
result_again (Some p) = rw (primitive_again p) refl

function_again : (f : FunctionTypeValue) → known_function_type (function_type f) ≡ Some f
function_again f = rw (each_again known_parameter named_parameter parameter_again f.params, result_again f.result) refl

pub known_again : (d : DefinitionValue) → known_of (definition_of d) ≡ Some d
known_again (core_module_of bytes) = refl
known_again (instantiation_of m args) = ap (λ xs. Some (instantiation_of m xs)) (map_again known_argument named_argument (λ a. refl) args)
known_again (inline_of exports) = ap (option_map (λ es. inline_of es)) (each_again known_export named_function (λ e. refl) exports)
known_again (alias_of instance name) = refl
known_again (type_of f) = ap (option_map (λ t. type_of t)) (function_again f)
known_again (lift_of core ty) = refl
known_again (lower_of func) = refl
known_again (import_of name ty) = refl
known_again (export_of name func None) = refl
known_again (export_of name func (Some t)) = refl

-- ---- what is known stands for one definition

primitive_back : (t : PrimitiveValueType) (p : PrimitiveType) → known_primitive t ≡ Some p → t ≡ primitive_value p
primitive_back types.Bool p e = ap primitive_value (some_is primitives.Bool p e)
primitive_back types.S8 p e = ap primitive_value (some_is primitives.S8 p e)
primitive_back types.U8 p e = ap primitive_value (some_is primitives.U8 p e)
primitive_back types.S16 p e = ap primitive_value (some_is primitives.S16 p e)
primitive_back types.U16 p e = ap primitive_value (some_is primitives.U16 p e)
primitive_back types.S32 p e = ap primitive_value (some_is primitives.S32 p e)
primitive_back types.U32 p e = ap primitive_value (some_is primitives.U32 p e)
primitive_back types.S64 p e = ap primitive_value (some_is primitives.S64 p e)
primitive_back types.U64 p e = ap primitive_value (some_is primitives.U64 p e)
primitive_back types.F32 p e = absurd cc
primitive_back types.F64 p e = absurd cc
primitive_back types.Char p e = absurd cc
primitive_back types.String p e = absurd cc

type_back : (t : ValueType) (p : PrimitiveType) → known_type t ≡ Some p → t ≡ value_type p
type_back (values.Primitive t) p e = ap values.Primitive (primitive_back t p e)
type_back (values.Index i) p e = absurd cc

parameter_back : (a : NamedValue ValueType) (b : ParameterValue) → known_parameter a ≡ Some b → a ≡ named_parameter b
parameter_back a b e = go (known_type a.item) refl e
  where
    go : (o : Option PrimitiveType) → known_type a.item ≡ o → option_map (λ t. record { name = a.name; ty = t }) o ≡ Some b → a ≡ named_parameter b
    go None j k = absurd cc
    go (Some t) j k = ap (λ i. record { name = a.name; item = i }) (type_back a.item t j) ∙ ap named_parameter (some_is (record { name = a.name; ty = t }) b k)

result_back : (r : Option ValueType) (s : Option PrimitiveType) → known_result r ≡ Some s → r ≡ option_map value_type s
result_back None s e = ap (option_map value_type) (some_is None s e)
result_back (Some t) s e = go (known_type t) refl e
  where
    go : (o : Option PrimitiveType) → known_type t ≡ o → option_map (λ r. Some r) o ≡ Some s → Some t ≡ option_map value_type s
    go None j k = absurd cc
    go (Some p) j k = ap (λ i. Some i) (type_back t p j) ∙ ap (option_map value_type) (some_is (Some p) s k)

function_back : (f : typed.FunctionTypeValue) (g : FunctionTypeValue) → known_function_type f ≡ Some g → f ≡ function_type g
function_back f g e = go (each_of known_parameter f.params) (known_result f.result) refl refl e
  where
    go : (o : Option (List ParameterValue)) (p : Option (Option PrimitiveType)) → each_of known_parameter f.params ≡ o → known_result f.result ≡ p → typed_function o p ≡ Some g → f ≡ function_type g
    go None p j k l = absurd cc
    go (Some ps) None j k l = absurd cc
    go (Some ps) (Some r) j k l =
        ap (λ xs. record { params = xs; result = f.result }) (each_back known_parameter named_parameter parameter_back f.params ps j)
        ∙ ap (λ t. record { params = map named_parameter ps; result = t }) (result_back f.result r k) ∙ ap function_type (some_is (record { params = ps; result = r }) g l)

-- through a map over an option
mapped : {A B : Type 0} (o : Option A) (make : A → B) (b : B) (P : Type 0) → option_map make o ≡ Some b → ((a : A) → o ≡ Some a → make a ≡ b → P) → P
mapped None make b P e found = absurd cc
mapped (Some a) make b P e found = found a refl (some_is (make a) b e)

item_back : (k : ExportKind) (n : List ℕ) (i : ℕ) (b : InlineExportValue) → if_function k n i ≡ Some b → record { name = n; item = record { kind = k; index = i } } ≡ named_function b
item_back kinds.Func n i b e = ap named_function (some_is (record { name = n; func = i }) b e)
item_back kinds.Table n i b e = absurd cc
item_back kinds.Memory n i b e = absurd cc
item_back kinds.Global n i b e = absurd cc

export_back : (a : NamedValue CoreItem) (b : InlineExportValue) → known_export a ≡ Some b → a ≡ named_function b
export_back a b e = item_back a.item.kind a.name a.item.index b e

core_instance_back : (i : CoreInstanceValue) (d : DefinitionValue) → known_core_instance i ≡ Some d → a_core_instance i ≡ definition_of d
core_instance_back (core_instantiate m args) d e =
    ap (λ xs. a_core_instance (core_instantiate m xs)) (sym (map_again named_argument known_argument (λ a. refl) args)) ∙ ap definition_of (some_is (instantiation_of m (map known_argument args)) d e)
core_instance_back (core_inline exports) d e =
    mapped (each_of known_export exports) (λ es. inline_of es) d (a_core_instance (core_inline exports) ≡ definition_of d) e
    (λ es j k. ap (λ xs. a_core_instance (core_inline xs)) (each_back known_export named_function export_back exports es j) ∙ ap definition_of k)

canonical_back : (c : CanonicalValue) (d : DefinitionValue) → known_canonical c ≡ Some d → a_canonical c ≡ definition_of d
canonical_back (lift f [] t) d e = ap definition_of (some_is (lift_of f t) d e)
canonical_back (lift f (o ∷ os) t) d e = absurd cc
canonical_back (lower f []) d e = ap definition_of (some_is (lower_of f) d e)
canonical_back (lower f (o ∷ os)) d e = absurd cc
canonical_back (resource_new t) d e = absurd cc
canonical_back (resource_drop t) d e = absurd cc
canonical_back (resource_rep t) d e = absurd cc

alias_back : (a : AliasValue) (d : DefinitionValue) → known_alias a ≡ Some d → an_entry (an_alias a) ≡ definition_of d
alias_back (instance_export s i n) d e = absurd cc
alias_back (core_instance_export kinds.Func i n) d e = ap definition_of (some_is (alias_of i n) d e)
alias_back (core_instance_export kinds.Table i n) d e = absurd cc
alias_back (core_instance_export kinds.Memory i n) d e = absurd cc
alias_back (core_instance_export kinds.Global i n) d e = absurd cc
alias_back (outer c i) d e = absurd cc

defined_back : (t : DefinedTypeValue) (d : DefinitionValue) → known_defined t ≡ Some d → an_entry (a_type (defined t)) ≡ definition_of d
defined_back (function f) d e =
    mapped (known_function_type f) (λ t. type_of t) d (an_entry (a_type (defined (function f))) ≡ definition_of d) e
    (λ g j k. ap (λ h. an_entry (a_type (defined (function h)))) (function_back f g j) ∙ ap definition_of k)
defined_back (typed.primitive p) d e = absurd cc
defined_back (typed.record_of fields) d e = absurd cc
defined_back (typed.variant_of cases) d e = absurd cc
defined_back (typed.list_of t) d e = absurd cc
defined_back (typed.fixed_length_list_of t n) d e = absurd cc
defined_back (typed.tuple_of ts) d e = absurd cc
defined_back (typed.flags_of ls) d e = absurd cc
defined_back (typed.enum_of ls) d e = absurd cc
defined_back (typed.option_of t) d e = absurd cc
defined_back (typed.result_of ok err) d e = absurd cc
defined_back (typed.own i) d e = absurd cc
defined_back (typed.borrow i) d e = absurd cc

import_back : (n : List ℕ) (t : Description) (d : DefinitionValue) → described_import n t ≡ Some d → an_entry (an_import (record { name = n; description = t })) ≡ definition_of d
import_back n (descriptions.Function t) d e = ap definition_of (some_is (import_of n t) d e)
import_back n (descriptions.Equal t) d e = absurd cc
import_back n descriptions.Resource d e = absurd cc
import_back n (descriptions.Instance t) d e = absurd cc

described_back : (n : List ℕ) (i : ℕ) (a : Option Description) (d : DefinitionValue) → described_export n i a ≡ Some d → an_entry (an_export (record { name = n; sort = a_function; index = i; ascribed = a })) ≡ definition_of d
described_back n i None d e = ap definition_of (some_is (export_of n i None) d e)
described_back n i (Some (descriptions.Function t)) d e = ap definition_of (some_is (export_of n i (Some t)) d e)
described_back n i (Some (descriptions.Equal t)) d e = absurd cc
described_back n i (Some descriptions.Resource) d e = absurd cc
described_back n i (Some (descriptions.Instance t)) d e = absurd cc

sorted_back : (n : List ℕ) (s : Sort) (i : ℕ) (a : Option Description) (d : DefinitionValue) → sorted_export s (described_export n i a) ≡ Some d → an_entry (an_export (record { name = n; sort = s; index = i; ascribed = a })) ≡ definition_of d
sorted_back n (sorts.Component components.Function) i a d e = described_back n i a d e
sorted_back n (sorts.Component components.Type_) i a d e = absurd cc
sorted_back n (sorts.Component components.Instance) i a d e = absurd cc
sorted_back n (sorts.Core k) i a d e = absurd cc

pub known_back : (x : whole.DefinitionValue) (d : DefinitionValue) → known_of x ≡ Some d → x ≡ definition_of d
known_back (a_core_module bytes) d e = ap definition_of (some_is (core_module_of bytes) d e)
known_back (a_core_instance i) d e = core_instance_back i d e
known_back (a_component c) d e = absurd cc
known_back (an_instance i) d e = absurd cc
known_back (a_canonical c) d e = canonical_back c d e
known_back (an_entry (an_alias a)) d e = alias_back a d e
known_back (an_entry (a_type (defined t))) d e = defined_back t d e
known_back (an_entry (a_type (resource r))) d e = absurd cc
known_back (an_entry (a_type (of_instance ds))) d e = absurd cc
known_back (an_entry (an_import i)) d e = import_back i.name i.description d e
known_back (an_entry (an_export x)) d e = sorted_back x.name x.sort x.index x.ascribed d e
