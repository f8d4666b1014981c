-- Where definitions behind the imports of a component may stand.
use Rattle.std.proofs.Common.{◌≡◌, ◌<◌, ℕ, Bool, true, List, [], ◌∷◌, map, None, refl, sym, subst}
use Rattle.std.specs.List.{AllByRecursion as Each}
use Rattle.std.proofs.lemmas.Bool.{lt-ltb}
use Rattle.distinct_names.specs.Names.{is_new, all_new}
use Rattle.binary_grammar.specs.Syntax.{Meets, EachWhere}
use Rattle.wasm_types.specs.Types.{kind_of}
use Rattle.wasm_types.specs.declared.types.ExportKind.{ExportKind}
use Rattle.wasm_types.specs.declared.types.ExportKind.TheVariants as kinds
use Rattle.component_value_types.specs.declared.scope.Scope.{Scope}
use Rattle.component_value_types.specs.Combinators.{NamedValue, named, presence_of}
use Rattle.component_definitions.specs.declared.canonical.CanonicalOption.{CanonicalOption}
use Rattle.component_definitions.specs.declared.canonical.CanonicalOption.TheVariants as options
use Rattle.component_definitions.specs.declared.sorts.ComponentSort.TheVariants as components
use Rattle.component_definitions.specs.declared.sorts.Sort.TheVariants as sorts
use Rattle.component_definitions.specs.Aliases.{alias, core_instance_export}
use Rattle.component_definitions.specs.Canonical.{canonical, canonical_form_of, option, option_form_of, option_list, are_single, lift, lower}
use Rattle.component_definitions.specs.Sorts.{sort, sort_form_of, component_sort_of}
use Rattle.component_instances.specs.declared.instances.CoreItem.{CoreItem}
use Rattle.component_instances.specs.Instances.{core_instance, instance_form_of, core_item, core_argument, core_instantiate, core_inline}
use Rattle.component_entries.specs.Entries.{DefinedValue, an_alias, an_export}
use Rattle.component_sections.specs.Component.{a_core_module, a_core_instance, a_canonical, an_entry, Follows}

-- ---- what stands in vectors

-- a core function that is there
pub record IsFunctionThere (s : Scope) (x : NamedValue CoreItem) : Type 0 where
  pub kind : x.item.kind ≡ kinds.Func
  pub index : x.item.index < s.core_functions

-- an index that is there
abbrev pub IsOptionThere : Scope → CanonicalOption → Type 0
IsOptionThere s options.Utf8 = Unit {0}
IsOptionThere s options.Utf16 = Unit {0}
IsOptionThere s options.CompactUtf16 = Unit {0}
IsOptionThere s (options.Memory i) = i < s.core_memories
IsOptionThere s (options.Realloc i) = i < s.core_functions
IsOptionThere s (options.PostReturn i) = i < s.core_functions

function_meets : (s : Scope) (i : ℕ) → i < s.core_functions → Meets core_item s (record { kind = kinds.Func; index = i })
unfolding core_item kind_of
function_meets s i lt = ((tt, refl), ((tt, lt-ltb i s.core_functions lt), refl))

item_meets : (s : Scope) (kind : ExportKind) (i : ℕ) → kind ≡ kinds.Func → i < s.core_functions → Meets core_item s (record { kind = kind; index = i })
item_meets s kind i same lt = subst (λ k. Meets core_item s (record { kind = k; index = i })) (sym same) (function_meets s i lt)

each_function : (s : Scope) (xs : List (NamedValue CoreItem)) → Each (IsFunctionThere s) xs → EachWhere (Meets (named core_item)) (λ there _. there) s xs
each_function s [] h = tt
each_function s (x ∷ xs) h = ((tt, (item_meets s x.item.kind x.item.index h.0.kind h.0.index, refl)), each_function s xs h.1)

each_argument : (s : Scope) (xs : List (NamedValue ℕ)) → Each (λ (x : NamedValue ℕ). x.item < s.core_instances) xs → EachWhere (Meets (named core_argument)) (λ there _. there) s xs
unfolding core_argument
each_argument s [] h = tt
each_argument s (x ∷ xs) h = ((tt, (((tt, refl), ((tt, lt-ltb x.item s.core_instances h.0), refl)), refl)), each_argument s xs h.1)

option_meets : (s : Scope) (o : CanonicalOption) → IsOptionThere s o → Meets option s o
unfolding option option_form_of
option_meets s options.Utf8 h = (tt, refl)
option_meets s options.Utf16 h = (tt, refl)
option_meets s options.CompactUtf16 h = (tt, refl)
option_meets s (options.Memory i) h = (tt, ((tt, lt-ltb i s.core_memories h), refl))
option_meets s (options.Realloc i) h = (tt, ((tt, lt-ltb i s.core_functions h), refl))
option_meets s (options.PostReturn i) h = (tt, ((tt, lt-ltb i s.core_functions h), refl))

each_option : (s : Scope) (os : List CanonicalOption) → Each (IsOptionThere s) os → EachWhere (Meets option) (λ there _. there) s os
each_option s [] h = tt
each_option s (o ∷ os) h = (option_meets s o h.0, each_option s os h.1)

-- ---- definitions

module _ (k : DefinedValue) where
  pub module_follows : (bytes : List ℕ) → Follows k (a_core_module bytes)
  module_follows bytes = (tt, refl)

  pub lower_follows : (f : ℕ) → f < k.scope.functions → Follows k (a_canonical (lower f []))
  unfolding canonical canonical_form_of option_list
  lower_follows f lt = ((tt, ((tt, refl), ((tt, lt-ltb f k.scope.functions lt), (((tt, (tt, refl)), refl), refl)))), refl)

  pub lift_follows : (c t : ℕ) (os : List CanonicalOption) → c < k.scope.core_functions → t < k.scope.types → Each (IsOptionThere k.scope) os → are_single os ≡ true → Follows k (a_canonical (lift c os t))
  unfolding canonical canonical_form_of option_list
  lift_follows c t os lc lt there single = ((tt, ((tt, refl), ((tt, lt-ltb c k.scope.core_functions lc), (((tt, (each_option k.scope os there, refl)), single), ((tt, lt-ltb t k.scope.types lt), refl))))), refl)

  pub alias_follows : (kind : ExportKind) (i : ℕ) (n : List ℕ) → i < k.scope.core_instances → Follows k (an_entry (an_alias (core_instance_export kind i n)))
  unfolding alias sort sort_form_of kind_of
  alias_follows kinds.Func i n lt = (((((tt, ((tt, refl), refl)), ((tt, refl), ((tt, lt-ltb i k.scope.core_instances lt), (tt, refl))))), refl), refl)
  alias_follows kinds.Table i n lt = (((((tt, ((tt, refl), refl)), ((tt, refl), ((tt, lt-ltb i k.scope.core_instances lt), (tt, refl))))), refl), refl)
  alias_follows kinds.Memory i n lt = (((((tt, ((tt, refl), refl)), ((tt, refl), ((tt, lt-ltb i k.scope.core_instances lt), (tt, refl))))), refl), refl)
  alias_follows kinds.Global i n lt = (((((tt, ((tt, refl), refl)), ((tt, refl), ((tt, lt-ltb i k.scope.core_instances lt), (tt, refl))))), refl), refl)

  pub inline_follows : (xs : List (NamedValue CoreItem)) → Each (IsFunctionThere k.scope) xs → all_new [] (map (λ (x : NamedValue CoreItem). x.name) xs) ≡ true → Follows k (a_core_instance (core_inline xs))
  unfolding core_instance instance_form_of
  inline_follows xs there differ = ((tt, (((tt, (each_function k.scope xs there, refl)), differ), refl)), refl)

  pub instantiation_follows : (m : ℕ) (xs : List (NamedValue ℕ)) → m < k.scope.core_modules → Each (λ (x : NamedValue ℕ). x.item < k.scope.core_instances) xs → all_new [] (map (λ (x : NamedValue ℕ). x.name) xs) ≡ true → Follows k (a_core_instance (core_instantiate m xs))
  unfolding core_instance instance_form_of
  instantiation_follows m xs low there differ = ((tt, ((tt, lt-ltb m k.scope.core_modules low), (((tt, (each_argument k.scope xs there, refl)), differ), refl))), refl)

  pub export_follows : (n : List ℕ) (i : ℕ) → is_new k.exports n ≡ true → i < k.scope.functions → Follows k (an_entry (an_export (record { name = n; sort = sorts.Component components.Function; index = i; ascribed = None })))
  unfolding sort sort_form_of component_sort_of presence_of
  export_follows n i new lt = ((((((tt, refl), (tt, refl)), new), (((tt, refl), ((tt, lt-ltb i k.scope.functions lt), ((((tt, refl), (tt, refl)), refl), refl))), refl))), refl)
