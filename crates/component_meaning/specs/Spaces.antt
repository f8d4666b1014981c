-- What the indices of a component stand for, by one fold over its definitions: each adds what it stands for, and looks only at what is
-- there already. Nothing is followed: a lift and a lowering keep the index of what they are of (Component Model, Explainer, Index Spaces,
-- Component Definitions).
use Rattle.std.specs.Prelude.{◌≡◌, ℕ, List, [], ◌∷◌, ◌++◌, map, fold, length, slice_get, Option, Some, None, is_some, option_and_then, Bool, true, false, bytes_eq, if◌then◌else◌}
use Rattle.std.specs.List.{flat_map, list_all}
use Rattle.wasm_types.specs.declared.types.ExportKind.{ExportKind}
use Rattle.wasm_types.specs.declared.types.ExportKind.TheVariants as kinds
use Rattle.wit_types.specs.declared.mangling.AbiVariant.TheVariants.{GuestImport}
use Rattle.component_value_types.specs.Combinators.{NamedValue}
use Rattle.component_sections.specs.Passed.component_definitions-declared-canonical-CanonicalOption.{CanonicalOption}
use Rattle.component_sections.specs.Passed.component_definitions-declared-sorts-Sort.{Sort}
use Rattle.component_sections.specs.Passed.component_definitions-declared-sorts-Sort-TheVariants as sorts
use Rattle.component_sections.specs.Passed.component_definitions-declared-sorts-ComponentSort-TheVariants as components
use Rattle.component_sections.specs.Passed.component_definitions-Aliases.{AliasValue, instance_export, core_instance_export, outer}
use Rattle.component_sections.specs.Passed.component_definitions-Canonical.{CanonicalValue, lift, lower, resource_new, resource_drop, resource_rep}
use Rattle.component_sections.specs.Passed.component_instances-declared-instances-CoreItem.{CoreItem as CoreIndex}
use Rattle.component_sections.specs.Passed.component_instances-Instances.{CoreInstanceValue, core_instantiate, core_inline}
use Rattle.component_sections.specs.Passed.component_entries-Entries.{EntryValue, an_alias, a_type, an_import, an_export}
use Rattle.component_sections.specs.Component.{DefinitionValue, a_core_module, a_core_instance, a_component, an_instance, a_canonical, an_entry}
use Rattle.flat_trees.specs.Passed.type_meaning-Words.{BinaryTree}
use Rattle.flat_trees.specs.Passed.type_meaning-Items.{Item, nothing, a_function, from_lift, item_at, type_at, is_function}
use Rattle.flat_trees.specs.Passed.type_meaning-Scope.{Scope, no_scope, in_space, adds as scope_adds, joined as scopes_joined}
use Rattle.flat_trees.specs.Flat.{signature, core_type}
use Rattle.component_meaning.specs.Core.{CoreType, of_function, is_of_kind, matches, CoreImport, CoreExport, MainModule, of_export, of_lower, CoreItem, CoreEntry, Source, of_main, of_unknown, of_items, CoreInstance}

-- ---- the index spaces, with the names of imports and exports in the scope

pub record Spaces : Type 0 where
  pub scope : Scope
  pub modules : List (List ℕ)
  pub core_instances : List CoreInstance
  pub core_functions : List (Option CoreItem)
  pub core_tables : List (Option CoreItem)
  pub core_memories : List (Option CoreItem)
  pub core_globals : List (Option CoreItem)

abbrev pub no_spaces : Spaces
no_spaces = record { scope = no_scope; modules = []; core_instances = []; core_functions = []; core_tables = []; core_memories = []; core_globals = [] }

-- one behind the other
abbrev pub joined : Spaces → Spaces → Spaces
joined s t = record {
  scope = scopes_joined s.scope t.scope;
  modules = s.modules ++ t.modules;
  core_instances = s.core_instances ++ t.core_instances;
  core_functions = s.core_functions ++ t.core_functions;
  core_tables = s.core_tables ++ t.core_tables;
  core_memories = s.core_memories ++ t.core_memories;
  core_globals = s.core_globals ++ t.core_globals;
}

abbrev pub scoped : Scope → Spaces
scoped s = record no_spaces { scope = s }

abbrev pub instance_space : CoreInstance → Spaces
instance_space i = record no_spaces { core_instances = i ∷ [] }

-- the next item of a core sort
abbrev pub core_space : ExportKind → Option CoreItem → Spaces
core_space kinds.Func i = record no_spaces { core_functions = i ∷ [] }
core_space kinds.Table i = record no_spaces { core_tables = i ∷ [] }
core_space kinds.Memory i = record no_spaces { core_memories = i ∷ [] }
core_space kinds.Global i = record no_spaces { core_globals = i ∷ [] }

abbrev pub core_space_of : ExportKind → Spaces → List (Option CoreItem)
core_space_of kinds.Func s = s.core_functions
core_space_of kinds.Table s = s.core_tables
core_space_of kinds.Memory s = s.core_memories
core_space_of kinds.Global s = s.core_globals

-- ---- looking up

abbrev pub core_at : ExportKind → Spaces → ℕ → Option CoreItem
core_at kind s i = option_and_then (λ x. x) (slice_get (core_space_of kind s) i)

abbrev pub entry_named : List ℕ → List CoreEntry → Option CoreItem
entry_named name [] = None
entry_named name (e ∷ es) = if bytes_eq name e.name then e.item else entry_named name es

-- what the instance with that index exports under a name
abbrev pub core_export : List CoreInstance → ℕ → List ℕ → Option CoreItem
core_export is k name = option_and_then (λ (i : CoreInstance). entry_named name i.exports) (slice_get is k)

abbrev pub if_of_kind : ExportKind → Option CoreItem → Option CoreItem
if_of_kind kind None = None
if_of_kind kind (Some i) = if is_of_kind kind i.ty then Some i else None

abbrev pub argument_named : List (NamedValue ℕ) → List ℕ → Option ℕ
argument_named [] name = None
argument_named (a ∷ more) name = if bytes_eq name a.name then Some a.item else argument_named more name

-- ---- instances of the main module

abbrev pub if_matches : CoreType → Option CoreItem → Option CoreItem
if_matches t None = None
if_matches t (Some i) = if matches t i.ty then Some i else None

-- what an instance is given for an import
abbrev pub given_for : List CoreInstance → List (NamedValue ℕ) → CoreImport → Option CoreItem
given_for is args i = if_matches i.ty (option_and_then (λ k. core_export is k i.name) (argument_named args i.place))

abbrev pub all_there : List (Option CoreItem) → Bool
all_there = list_all is_some

-- what the instance with that index exports
abbrev pub exports_of : MainModule → ℕ → List CoreEntry
exports_of main n = map (λ (e : CoreExport). record { name = e.name; item = Some (record { origin = of_export n e.name; ty = e.ty }) }) main.exports

-- one that isn't given all that it asks stands for nothing, and exports nothing
abbrev pub main_instance : MainModule → ℕ → List (Option CoreItem) → CoreInstance
main_instance main n given = record { source = of_main given; exports = if all_there given then exports_of main n else [] }

abbrev pub is_main : MainModule → Option (List ℕ) → Bool
is_main main None = false
is_main main (Some bytes) = bytes_eq bytes main.bytes

abbrev pub instantiated : MainModule → Spaces → Bool → List (NamedValue ℕ) → CoreInstance
instantiated main s true args = main_instance main (length s.core_instances) (map (given_for s.core_instances args) main.imports)
instantiated main s false args = record { source = of_unknown; exports = [] }

-- what each instance of the main module is given
abbrev pub given_by : Source → List (List (Option CoreItem))
given_by (of_main given) = given ∷ []
given_by of_unknown = []
given_by of_items = []

abbrev pub all_given : List CoreInstance → List (List (Option CoreItem))
all_given = flat_map (λ (i : CoreInstance). given_by i.source)

-- ---- what a definition adds

abbrev pub inline_entry : Spaces → NamedValue CoreIndex → CoreEntry
inline_entry s e = record { name = e.name; item = core_at e.item.kind s e.item.index }

abbrev pub core_instance_adds : MainModule → Spaces → CoreInstanceValue → Spaces
core_instance_adds main s (core_instantiate m args) = instance_space (instantiated main s (is_main main (slice_get s.modules m)) args)
core_instance_adds main s (core_inline es) = instance_space (record { source = of_items; exports = map (inline_entry s) es })

-- a lift is a function of its type, whatever the core function is
abbrev pub lifting : ℕ → List CanonicalOption → Option BinaryTree → Item
lifting c os None = nothing
lifting c os (Some t) = a_function (from_lift c os) t

-- a lowering has the core type of an import of the function
abbrev pub lowering : ℕ → List CanonicalOption → Item → Option CoreItem
lowering f os (a_function o t) = Some (record { origin = of_lower f os; ty = of_function (core_type (signature GuestImport t)) })
lowering f os _ = None

-- of resources nothing is known yet
abbrev pub canonical_adds : Spaces → CanonicalValue → Spaces
canonical_adds s (lift c os t) = scoped (in_space components.Function (lifting c os (type_at is_function s.scope.types t)))
canonical_adds s (lower f os) = core_space kinds.Func (lowering f os (item_at s.scope.functions f))
canonical_adds s (resource_new t) = core_space kinds.Func None
canonical_adds s (resource_drop t) = core_space kinds.Func None
canonical_adds s (resource_rep t) = core_space kinds.Func None

-- core items that are named, beside what is in the scope
abbrev pub core_alias : Spaces → AliasValue → Spaces
core_alias s (instance_export sort i name) = no_spaces
core_alias s (core_instance_export kind i name) = core_space kind (if_of_kind kind (core_export s.core_instances i name))
core_alias s (outer count i) = no_spaces

abbrev pub core_again : Spaces → Sort → ℕ → Spaces
core_again s (sorts.Core kind) i = core_space kind (core_at kind s i)
core_again s (sorts.Component sort) i = no_spaces

abbrev pub core_entry : Spaces → EntryValue → Spaces
core_entry s (an_alias a) = core_alias s a
core_entry s (a_type t) = no_spaces
core_entry s (an_import i) = no_spaces
core_entry s (an_export e) = core_again s e.sort e.index

-- of nested components and of instances of them nothing is known yet
abbrev pub adds : MainModule → Spaces → DefinitionValue → Spaces
adds main s (a_core_module bytes) = record no_spaces { modules = bytes ∷ [] }
adds main s (a_core_instance i) = core_instance_adds main s i
adds main s (a_component es) = no_spaces
adds main s (an_instance i) = scoped (in_space components.Instance nothing)
adds main s (a_canonical c) = canonical_adds s c
adds main s (an_entry e) = joined (scoped (scope_adds s.scope e)) (core_entry s e)

-- the spaces behind one more definition
abbrev pub after : MainModule → Spaces → DefinitionValue → Spaces
after main s d = joined s (adds main s d)

unfoldable pub meaning : MainModule → List DefinitionValue → Spaces
meaning main ds = fold (after main) no_spaces ds

-- ---- earlier indices

-- definitions that follow leave what was there as it was
abbrev pub EarlierIndicesStay : Type 0
EarlierIndicesStay = (main : MainModule) (ds more : List DefinitionValue) → (t : Spaces) × (meaning main (ds ++ more) ≡ joined (meaning main ds) t)
