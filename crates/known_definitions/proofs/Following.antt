-- Where a known definition may stand.
use Rattle.std.proofs.Common.{◌≡◌, ◌<◌, ℕ, Bool, true, false, ◌&&◌, not, List, [], ◌∷◌, map, Option, Some, None, refl, ap, ◌∙◌}
use Rattle.std.specs.Prelude.{option_map}
use Rattle.std.specs.List.{All}
use Rattle.std.proofs.lemmas.Bool.{lt-ltb}
use Rattle.std.proofs.lemmas.List.Elements.{All-head, All-tail}
use Rattle.distinct_names.specs.Names.{is_new, all_new}
use Rattle.binary_grammar.specs.Syntax.{Meets, EachWhere}
use Rattle.binary_grammar.specs.Signed.{signed_bytes, signed_digits, all_digits}
use Rattle.component_instances.specs.declared.instances.CoreItem.{CoreItem}
use Rattle.component_value_types.specs.declared.values.ValueType.{ValueType}
use Rattle.component_value_types.specs.declared.scope.Scope.{Scope}
use Rattle.component_value_types.specs.Values as values
use Rattle.component_value_types.specs.Types as types
use Rattle.component_value_types.specs.Combinators.{NamedValue, named, presence_of}
use Rattle.component_definitions.specs.Aliases.{alias}
use Rattle.component_definitions.specs.Canonical.{canonical, canonical_form_of, option_list}
use Rattle.component_definitions.specs.Externs.{description, description_form_of}
use Rattle.component_definitions.specs.Sorts.{sort, sort_form_of, component_sort_of}
use Rattle.component_instances.specs.Instances.{core_instance, instance_form_of, core_item, core_argument}
use Rattle.component_instances.specs.TypeDefinitions as definitions
use Rattle.wasm_types.specs.Types.{kind_of}
use Rattle.component_sections.specs.Passed.component_entries-Entries.{DefinedValue}
use Rattle.component_sections.specs.Component.{Follows}
use Rattle.plain_worlds.specs.declared.world.PrimitiveType.{PrimitiveType}
use Rattle.plain_worlds.specs.declared.world.PrimitiveType.TheVariants as primitives
use Rattle.plain_worlds.specs.World.{ParameterValue, FunctionTypeValue}
use Rattle.known_definitions.specs.Definition.{ArgumentValue, InlineExportValue, core_module_of, instantiation_of, inline_of, alias_of, type_of, lift_of, lower_of, import_of, export_of}
use Rattle.known_definitions.specs.Known.{value_type, named_parameter, named_argument, named_function, definition_of}

-- the name of each
again : {A X : Type 0} (name : A → List ℕ) (make : A → NamedValue X) → ((a : A) → (make a).name ≡ name a) → (xs : List A) → map (λ (e : NamedValue X). e.name) (map make xs) ≡ map name xs
again name make same [] = refl
again name make same (x ∷ xs) = rw (same x, again name make same xs) refl

-- ---- what stands in vectors

each_function : (s : Scope) (xs : List InlineExportValue) → All (λ x. x.func < s.core_functions) xs → EachWhere (Meets (named core_item)) (λ there _. there) s (map named_function xs)
unfolding core_item kind_of
each_function s [] h = tt
each_function s (x ∷ xs) h =
    let low = λ (y : InlineExportValue). y.func < s.core_functions in
    ((tt, (((tt, refl), ((tt, lt-ltb x.func s.core_functions (All-head low x xs h)), refl)), refl)), each_function s xs (All-tail low x xs h))

each_argument : (s : Scope) (xs : List ArgumentValue) → All (λ x. x.instance < s.core_instances) xs → EachWhere (Meets (named core_argument)) (λ there _. there) s (map named_argument xs)
unfolding core_argument
each_argument s [] h = tt
each_argument s (x ∷ xs) h =
    let low = λ (y : ArgumentValue). y.instance < s.core_instances in
    ((tt, (((tt, refl), ((tt, lt-ltb x.instance s.core_instances (All-head low x xs h)), refl)), refl)), each_argument s xs (All-tail low x xs h))

primitive_stands : (s : Scope) (p : PrimitiveType) → Meets values.value_type s (value_type p)
unfolding values.value_type values.primitive_at signed_bytes signed_digits all_digits
primitive_stands s primitives.Bool = ((tt, refl), refl)
primitive_stands s primitives.S8 = ((tt, refl), refl)
primitive_stands s primitives.U8 = ((tt, refl), refl)
primitive_stands s primitives.S16 = ((tt, refl), refl)
primitive_stands s primitives.U16 = ((tt, refl), refl)
primitive_stands s primitives.S32 = ((tt, refl), refl)
primitive_stands s primitives.U32 = ((tt, refl), refl)
primitive_stands s primitives.S64 = ((tt, refl), refl)
primitive_stands s primitives.U64 = ((tt, refl), refl)

each_parameter : (s : Scope) (ps : List ParameterValue) → EachWhere (Meets (named values.value_type)) (λ there _. there) s (map named_parameter ps)
each_parameter s [] = tt
each_parameter s (p ∷ ps) = ((tt, (primitive_stands s p.ty, refl)), each_parameter s ps)

result_stands : (s : Scope) (r : Option PrimitiveType) → Meets types.function_result s (option_map value_type r)
unfolding types.function_result types.result_form_of
result_stands s None = ((tt, refl), ((tt, refl), refl))
result_stands s (Some p) = ((tt, refl), (primitive_stands s p, refl))

module _ (k : DefinedValue) where
  pub module_follows : (bytes : List ℕ) → Follows k (definition_of (core_module_of bytes))
  module_follows bytes = (tt, refl)

  pub lower_follows : (f : ℕ) → f < k.scope.functions → Follows k (definition_of (lower_of f))
  unfolding canonical canonical_form_of option_list
  lower_follows f lt = ((tt, ((tt, refl), ((tt, lt-ltb f k.scope.functions lt), (((tt, (tt, refl)), refl), refl)))), refl)

  pub lift_follows : (c t : ℕ) → c < k.scope.core_functions → t < k.scope.types → Follows k (definition_of (lift_of c t))
  unfolding canonical canonical_form_of option_list
  lift_follows c t lc lt = ((tt, ((tt, refl), ((tt, lt-ltb c k.scope.core_functions lc), (((tt, (tt, refl)), refl), ((tt, lt-ltb t k.scope.types lt), refl))))), refl)

  pub import_follows : (n : List ℕ) (t : ℕ) → is_new k.imports n ≡ true → t < k.scope.types → Follows k (definition_of (import_of n t))
  unfolding description description_form_of
  import_follows n t new lt = ((((((tt, refl), (tt, refl)), new), (((tt, ((tt, lt-ltb t k.scope.types lt), refl)), refl), refl))), refl)

  pub export_follows : (n : List ℕ) (i : ℕ) → is_new k.exports n ≡ true → i < k.scope.functions → Follows k (definition_of (export_of n i None))
  unfolding sort sort_form_of component_sort_of presence_of
  export_follows n i new lt = ((((((tt, refl), (tt, refl)), new), (((tt, refl), ((tt, lt-ltb i k.scope.functions lt), ((((tt, refl), (tt, refl)), refl), refl))), refl))), refl)

  pub alias_follows : (i : ℕ) (n : List ℕ) → i < k.scope.core_instances → Follows k (definition_of (alias_of i n))
  unfolding alias sort sort_form_of kind_of
  alias_follows i n lt = (((((tt, ((tt, refl), refl)), ((tt, refl), ((tt, lt-ltb i k.scope.core_instances lt), (tt, refl))))), refl), refl)

  pub inline_follows : (xs : List InlineExportValue) → All (λ x. x.func < k.scope.core_functions) xs → all_new [] (map (λ x. x.name) xs) ≡ true → Follows k (definition_of (inline_of xs))
  unfolding core_instance instance_form_of
  inline_follows xs low differ =
      let names : all_new [] (map (λ (e : NamedValue CoreItem). e.name) (map named_function xs)) ≡ true = ap (all_new []) (again (λ (x : InlineExportValue). x.name) named_function (λ x. refl) xs) ∙ differ in
      ((tt, (((tt, (each_function k.scope xs low, refl)), names), refl)), refl)

  pub instantiation_follows : (m : ℕ) (xs : List ArgumentValue) → m < k.scope.core_modules → All (λ x. x.instance < k.scope.core_instances) xs → all_new [] (map (λ x. x.name) xs) ≡ true → Follows k (definition_of (instantiation_of m xs))
  unfolding core_instance instance_form_of
  instantiation_follows m xs there low differ =
      let names : all_new [] (map (λ (e : NamedValue ℕ). e.name) (map named_argument xs)) ≡ true = ap (all_new []) (again (λ (x : ArgumentValue). x.name) named_argument (λ x. refl) xs) ∙ differ in
      ((tt, ((tt, lt-ltb m k.scope.core_modules there), (((tt, (each_argument k.scope xs low, refl)), names), refl))), refl)

  never : (b : Bool) → not (b && false) ≡ true
  never true = refl
  never false = refl

  pub type_follows : (f : FunctionTypeValue) → all_new [] (map (λ p. p.name) f.params) ≡ true → Follows k (definition_of (type_of f))
  unfolding definitions.type_definition definitions.form_of types.next types.form_of types.function_type
  type_follows f differ =
      let names : all_new [] (map (λ (e : NamedValue ValueType). e.name) (map named_parameter f.params)) ≡ true = ap (all_new []) (again (λ (p : ParameterValue). p.name) named_parameter (λ p. refl) f.params) ∙ differ in
      ((((tt, ((((((tt, (each_parameter k.scope f.params, refl)), names), (result_stands k.scope f.result, refl)), refl)), refl)), never k.nested), refl), refl)
