-- Where an entry of a component, and a declarator in the type of an instance, may stand.
use Rattle.std.proofs.Common.{◌≡◌, ◌<◌, ℕ, Bool, true, false, ◌&&◌, not, List, [], ◌∷◌, map, Option, Some, None, refl, sym, ap, subst, ◌∙◌}
use Rattle.std.specs.Prelude.{Ok, Err, nat_lt, if◌then◌else◌}
use Rattle.std.specs.List.{AllByRecursion as Each}
use Rattle.std.proofs.lemmas.Bool.{lt-ltb}
use Rattle.binary_grammar.specs.declared.fault.Rule.TheVariants as rules
use Rattle.binary_grammar.specs.Syntax.{Meets, EachWhere, some_name}
use Rattle.binary_grammar.specs.Signed.{signed_bytes, signed_digits, all_digits}
use Rattle.distinct_names.specs.Names.{is_new, all_new}
use Rattle.component_value_types.specs.declared.scope.Scope.{Scope}
use Rattle.component_value_types.specs.declared.values.PrimitiveValueType.TheVariants as primitives
use Rattle.component_value_types.specs.declared.values.ValueType.{ValueType}
use Rattle.component_value_types.specs.declared.values.ValueType.TheVariants as values
use Rattle.component_value_types.specs.Combinators.{named, optional, presence_of}
use Rattle.component_value_types.specs.Scope.{types_outwards}
use Rattle.component_value_types.specs.Values.{value_type, primitive_at}
use Rattle.component_value_types.specs.Types as types
use Rattle.component_value_types.specs.Types.{NamedTypeValue, CaseValue, DefinedTypeValue}
use Rattle.component_definitions.specs.declared.sorts.ComponentSort.{ComponentSort}
use Rattle.component_definitions.specs.declared.sorts.ComponentSort.TheVariants as sorts
use Rattle.component_definitions.specs.declared.externs.Description.TheVariants as descriptions
use Rattle.component_definitions.specs.Aliases.{alias, instance_export, outer, is_there, some_or_none}
use Rattle.component_definitions.specs.Counting.{inside}
use Rattle.component_definitions.specs.Externs.{description, description_form_of, bound_form_of}
use Rattle.component_definitions.specs.Sorts.{sort, sort_form_of, component_sort_of}
use Rattle.component_sections.specs.Passed.component_instances-Declarators.{DeclaratorValue, DeclaredValue, declared_type, declared_alias, declared_export, declarator, declarator_form_of, declared_with, instance_type}
use Rattle.component_sections.specs.Passed.component_instances-TypeDefinitions as definitions
use Rattle.component_sections.specs.Passed.component_instances-TypeDefinitions.{TypeDefinitionForm, another, defined, of_instance}
use Rattle.component_sections.specs.Passed.component_entries-Entries.{DefinedValue, an_alias, a_type, an_import}
use Rattle.component_sections.specs.Component.{an_entry, Follows}
use Rattle.type_writing.specs.Placing.{IsBelow, MayBeDefined}

-- ---- value types

value_stands : (s : Scope) (v : ValueType) → IsBelow s.types (Some v) → Meets value_type s v
unfolding value_type primitive_at signed_bytes signed_digits all_digits
value_stands s (values.Index i) h = ((tt, ap (λ b. if b then Ok (values.Index i) else Err rules.Index) (lt-ltb i s.types h)), refl)
value_stands s (values.Primitive primitives.Bool) h = ((tt, refl), refl)
value_stands s (values.Primitive primitives.S8) h = ((tt, refl), refl)
value_stands s (values.Primitive primitives.U8) h = ((tt, refl), refl)
value_stands s (values.Primitive primitives.S16) h = ((tt, refl), refl)
value_stands s (values.Primitive primitives.U16) h = ((tt, refl), refl)
value_stands s (values.Primitive primitives.S32) h = ((tt, refl), refl)
value_stands s (values.Primitive primitives.U32) h = ((tt, refl), refl)
value_stands s (values.Primitive primitives.S64) h = ((tt, refl), refl)
value_stands s (values.Primitive primitives.U64) h = ((tt, refl), refl)
value_stands s (values.Primitive primitives.F32) h = ((tt, refl), refl)
value_stands s (values.Primitive primitives.F64) h = ((tt, refl), refl)
value_stands s (values.Primitive primitives.Char) h = ((tt, refl), refl)
value_stands s (values.Primitive primitives.String) h = ((tt, refl), refl)

optional_stands : (s : Scope) (v : Option ValueType) → IsBelow s.types v → Meets (optional value_type) s v
unfolding presence_of
optional_stands s None h = (((tt, refl), (tt, refl)), refl)
optional_stands s (Some v) h = (((tt, refl), ((value_stands s v h, tt), refl)), refl)

result_stands : (s : Scope) (v : Option ValueType) → IsBelow s.types v → Meets types.function_result s v
unfolding types.function_result types.result_form_of
result_stands s None h = ((tt, refl), ((tt, refl), refl))
result_stands s (Some v) h = ((tt, refl), (value_stands s v h, refl))

-- ---- what stands in vectors

each_named : (s : Scope) (xs : List NamedTypeValue) → Each (IsBelow s.types) (map (λ (f : NamedTypeValue). Some f.item) xs) → EachWhere (Meets (named value_type)) (λ there _. there) s xs
each_named s [] h = tt
each_named s (x ∷ xs) h = ((tt, (value_stands s x.item h.0, refl)), each_named s xs h.1)

each_case : (s : Scope) (xs : List CaseValue) → Each (IsBelow s.types) (map (λ (c : CaseValue). c.item) xs) → EachWhere (Meets (named types.case_type)) (λ there _. there) s xs
unfolding types.case_type
each_case s [] h = tt
each_case s (x ∷ xs) h = ((tt, ((optional_stands s x.item h.0, ((tt, refl), refl)), refl)), each_case s xs h.1)

each_type : (s : Scope) (xs : List ValueType) → Each (IsBelow s.types) (map (λ (t : ValueType). Some t) xs) → EachWhere (Meets value_type) (λ there _. there) s xs
each_type s [] h = tt
each_type s (x ∷ xs) h = (value_stands s x h.0, each_type s xs h.1)

each_name : (s : Scope) (xs : List (List ℕ)) → EachWhere (Meets some_name) (λ there _. there) s xs
each_name s [] = tt
each_name s (x ∷ xs) = (tt, each_name s xs)

as_they_are : (xs : List (List ℕ)) → map (λ (l : List ℕ). l) xs ≡ xs
as_they_are [] = refl
as_they_are (x ∷ xs) = ap (λ (l : List (List ℕ)). x ∷ l) (as_they_are xs)

-- ---- types

behind_byte : (s : Scope) (d : DefinedTypeValue) → MayBeDefined s.types d → Meets (types.next (types.which d)) s d
unfolding types.next types.form_of types.function_type primitive_at
behind_byte s (types.primitive primitives.Bool) h = refl
behind_byte s (types.primitive primitives.S8) h = refl
behind_byte s (types.primitive primitives.U8) h = refl
behind_byte s (types.primitive primitives.S16) h = refl
behind_byte s (types.primitive primitives.U16) h = refl
behind_byte s (types.primitive primitives.S32) h = refl
behind_byte s (types.primitive primitives.U32) h = refl
behind_byte s (types.primitive primitives.S64) h = refl
behind_byte s (types.primitive primitives.U64) h = refl
behind_byte s (types.primitive primitives.F32) h = refl
behind_byte s (types.primitive primitives.F64) h = refl
behind_byte s (types.primitive primitives.Char) h = refl
behind_byte s (types.primitive primitives.String) h = refl
behind_byte s (types.record_of fields) h = (((tt, (each_named s fields h.parts, refl)), h.labels), refl)
behind_byte s (types.variant_of cases) h = (((tt, (each_case s cases h.parts, refl)), h.labels), refl)
behind_byte s (types.list_of t) h = (value_stands s t h.parts.0, refl)
behind_byte s (types.fixed_length_list_of t n) h = (value_stands s t h.parts.0, (tt, refl))
behind_byte s (types.tuple_of ts) h = ((tt, (each_type s ts h.parts, refl)), refl)
behind_byte s (types.flags_of ls) h = (((tt, (each_name s ls, refl)), ap (all_new []) (as_they_are ls) ∙ h.labels), refl)
behind_byte s (types.enum_of ls) h = (((tt, (each_name s ls, refl)), ap (all_new []) (as_they_are ls) ∙ h.labels), refl)
behind_byte s (types.option_of t) h = (value_stands s t h.parts.0, refl)
behind_byte s (types.result_of ok err) h = (optional_stands s ok h.parts.0, (optional_stands s err h.parts.1.0, refl))
behind_byte s (types.own i) h = ((tt, lt-ltb i s.types h.parts.0), refl)
behind_byte s (types.borrow i) h = ((tt, lt-ltb i s.types h.parts.0), refl)
behind_byte s (types.function f) h = ((((tt, (each_named s f.params h.parts.1, refl)), h.labels), (result_stands s f.result h.parts.0, refl)), refl)

defined_stands : (s : Scope) (d : DefinedTypeValue) → MayBeDefined s.types d → Meets types.defined_type s d
unfolding types.defined_type
defined_stands s d h = (tt, behind_byte s d h)

-- a type that is defined is neither a resource nor the type of an instance
neither : (d : DefinedTypeValue) → definitions.form_of (types.which d) ≡ another (types.which d)
unfolding definitions.form_of
neither (types.primitive primitives.Bool) = refl
neither (types.primitive primitives.S8) = refl
neither (types.primitive primitives.U8) = refl
neither (types.primitive primitives.S16) = refl
neither (types.primitive primitives.U16) = refl
neither (types.primitive primitives.S32) = refl
neither (types.primitive primitives.U32) = refl
neither (types.primitive primitives.S64) = refl
neither (types.primitive primitives.U64) = refl
neither (types.primitive primitives.F32) = refl
neither (types.primitive primitives.F64) = refl
neither (types.primitive primitives.Char) = refl
neither (types.primitive primitives.String) = refl
neither (types.record_of fields) = refl
neither (types.variant_of cases) = refl
neither (types.list_of t) = refl
neither (types.fixed_length_list_of t n) = refl
neither (types.tuple_of ts) = refl
neither (types.flags_of ls) = refl
neither (types.enum_of ls) = refl
neither (types.option_of t) = refl
neither (types.result_of ok err) = refl
neither (types.own i) = refl
neither (types.borrow i) = refl
neither (types.function f) = refl

definition_stands : (s : Scope) (d : DefinedTypeValue) → MayBeDefined s.types d → Meets definitions.type_definition s (defined d)
unfolding definitions.type_definition
definition_stands s d h = (tt, subst (λ (form : TypeDefinitionForm). Meets (definitions.behind form) s (defined d)) (sym (neither d)) (behind_byte s d h, refl))

instance_type_stands : (s : Scope) (ds : List DeclaratorValue) → EachWhere (Meets declarator) declared_with (record { scope = inside s; names = [] }) ds → Meets definitions.type_definition s (of_instance ds)
unfolding definitions.type_definition definitions.form_of instance_type
instance_type_stands s ds h = (tt, ((tt, (h, refl)), refl))

-- ---- what is imported and exported

function_stands : (s : Scope) (t : ℕ) → t < s.types → Meets description s (descriptions.Function t)
unfolding description description_form_of
function_stands s t lt = (tt, ((tt, lt-ltb t s.types lt), refl))

equal_stands : (s : Scope) (t : ℕ) → t < s.types → Meets description s (descriptions.Equal t)
unfolding description description_form_of bound_form_of
equal_stands s t lt = (tt, (tt, ((tt, lt-ltb t s.types lt), refl)))

instance_stands : (s : Scope) (t : ℕ) → t < s.types → Meets description s (descriptions.Instance t)
unfolding description description_form_of
instance_stands s t lt = (tt, ((tt, lt-ltb t s.types lt), refl))

-- ---- entries

never : (b : Bool) → not (b && false) ≡ true
never true = refl
never false = refl

module _ (k : DefinedValue) where
  pub type_follows : (d : DefinedTypeValue) → MayBeDefined k.scope.types d → Follows k (an_entry (a_type (defined d)))
  type_follows d h = (((definition_stands k.scope d h, never k.nested), refl), refl)

  pub instance_type_follows : (ds : List DeclaratorValue) → EachWhere (Meets declarator) declared_with (record { scope = inside k.scope; names = [] }) ds → Follows k (an_entry (a_type (of_instance ds)))
  instance_type_follows ds h = (((instance_type_stands k.scope ds h, never k.nested), refl), refl)

  pub import_type_follows : (n : List ℕ) (t : ℕ) → is_new k.imports n ≡ true → t < k.scope.types → Follows k (an_entry (an_import (record { name = n; description = descriptions.Equal t })))
  import_type_follows n t new lt = (((((tt, refl), (tt, refl)), new), ((equal_stands k.scope t lt, refl), refl)), refl)

  pub import_function_follows : (n : List ℕ) (t : ℕ) → is_new k.imports n ≡ true → t < k.scope.types → Follows k (an_entry (an_import (record { name = n; description = descriptions.Function t })))
  import_function_follows n t new lt = (((((tt, refl), (tt, refl)), new), ((function_stands k.scope t lt, refl), refl)), refl)

  pub import_instance_follows : (n : List ℕ) (t : ℕ) → is_new k.imports n ≡ true → t < k.scope.types → Follows k (an_entry (an_import (record { name = n; description = descriptions.Instance t })))
  import_instance_follows n t new lt = (((((tt, refl), (tt, refl)), new), ((instance_stands k.scope t lt, refl), refl)), refl)

  pub alias_follows : (s : ComponentSort) (i : ℕ) (n : List ℕ) → i < k.scope.instances → Follows k (an_entry (an_alias (instance_export s i n)))
  unfolding alias sort sort_form_of component_sort_of
  alias_follows sorts.Function i n lt = (((((tt, refl), ((tt, refl), ((tt, lt-ltb i k.scope.instances lt), (tt, refl)))), refl)), refl)
  alias_follows sorts.Type_ i n lt = (((((tt, refl), ((tt, refl), ((tt, lt-ltb i k.scope.instances lt), (tt, refl)))), refl)), refl)
  alias_follows sorts.Instance i n lt = (((((tt, refl), ((tt, refl), ((tt, lt-ltb i k.scope.instances lt), (tt, refl)))), refl)), refl)

-- ---- declarators

module _ (k : DeclaredValue) where
  pub declared_type_follows : (d : DefinedTypeValue) → MayBeDefined k.scope.types d → Meets declarator k (declared_type d)
  unfolding declarator declarator_form_of
  declared_type_follows d h = (tt, (defined_stands k.scope d h, refl))

  pub outer_follows : (m i : ℕ) → k.scope.outer ≡ Some m → i < m → Meets declarator k (declared_alias (outer 1 i))
  unfolding declarator declarator_form_of alias sort sort_form_of component_sort_of types_outwards
  outer_follows m i e lt =
      (tt, (((tt, refl), ((tt, refl), ((tt, ap is_there e), ((tt, ap (λ o. nat_lt i (some_or_none o)) e ∙ lt-ltb i m lt), refl)))), refl))

  pub export_type_follows : (n : List ℕ) (t : ℕ) → is_new k.names n ≡ true → t < k.scope.types → Meets declarator k (declared_export n (descriptions.Equal t))
  unfolding declarator declarator_form_of
  export_type_follows n t new lt = (tt, ((((tt, refl), (tt, refl)), new), ((equal_stands k.scope t lt, refl), refl)))

  pub export_function_follows : (n : List ℕ) (t : ℕ) → is_new k.names n ≡ true → t < k.scope.types → Meets declarator k (declared_export n (descriptions.Function t))
  unfolding declarator declarator_form_of
  export_function_follows n t new lt = (tt, ((((tt, refl), (tt, refl)), new), ((function_stands k.scope t lt, refl), refl)))
