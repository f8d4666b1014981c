-- What a whole component and a nested one both may have, each where what is before it is known (Component Model Binary,
-- Component Definitions).
use Rattle.std.specs.Prelude.{ℕ, List, [], Bool, true, false, not, ◌&&◌, None, Result, Ok, Err, ◌==◌, if◌then◌else◌}
use Rattle.binary_grammar.specs.declared.fault.Rule.{Rule}
use Rattle.binary_grammar.specs.declared.fault.Rule.TheVariants as rules
use Rattle.binary_grammar.specs.Syntax.{Syntax, unbounded, ◌◂◌, ◌>>=◌, gives, refuses, tested, where_known}
use Rattle.distinct_names.specs.Names.{is_new, with_name}
use Rattle.component_definitions.specs.Passed.component_value_types-declared-scope-Scope.{Scope}
use Rattle.component_definitions.specs.Passed.component_value_types-Scope.{no_scope}
use Rattle.component_definitions.specs.declared.sorts.ComponentSort.TheVariants as components
use Rattle.component_definitions.specs.declared.sorts.Sort.{Sort}
use Rattle.component_definitions.specs.declared.sorts.Sort.TheVariants as sorts
use Rattle.component_definitions.specs.declared.externs.Description.TheVariants as descriptions
use Rattle.component_definitions.specs.declared.counting.IndexSpace.TheVariants as spaces
use Rattle.component_definitions.specs.Aliases.{AliasValue, alias_value, alias_sort, alias, outer}
use Rattle.component_definitions.specs.Externs.{ImportValue, ExportValue, import_value, export_value, extern_name, import_behind, export_behind}
use Rattle.component_definitions.specs.Counting.{with_one, described_sort}
use Rattle.component_instances.specs.TypeDefinitions.{TypeDefinitionValue, type_definition_value, type_definition, defined, resource, of_instance}
use Rattle.component_entries.specs.declared.entry.Entry.{Entry}
use Rattle.component_entries.specs.declared.entry.Entry.TheVariants as entries
use Rattle.component_entries.specs.declared.entry.EntryKind.{EntryKind}
use Rattle.component_entries.specs.declared.entry.EntryKind.TheVariants as kinds

pub data EntryValue : Type 0 where
  an_alias : AliasValue → EntryValue
  a_type : TypeDefinitionValue → EntryValue
  an_import : ImportValue → EntryValue
  an_export : ExportValue → EntryValue

abbrev pub entry_value : Entry → EntryValue
entry_value (entries.Alias a) = an_alias (alias_value a)
entry_value (entries.Type_ t) = a_type (type_definition_value t)
entry_value (entries.Import i) = an_import (import_value i)
entry_value (entries.Export e) = an_export (export_value e)

abbrev pub entry_kind : EntryValue → EntryKind
entry_kind (an_alias a) = kinds.Alias
entry_kind (a_type t) = kinds.Type_
entry_kind (an_import i) = kinds.Import
entry_kind (an_export e) = kinds.Export

-- each takes the next index of one sort (Explainer, Index Spaces)
abbrev pub entry_sort : EntryValue → Sort
entry_sort (an_alias a) = alias_sort a
entry_sort (a_type t) = sorts.Component components.Type_
entry_sort (an_import i) = sorts.Component (described_sort i.description)
entry_sort (an_export e) = e.sort

-- its parts, and any value where it has another part
abbrev pub alias_in : EntryValue → AliasValue
alias_in (an_alias a) = a
alias_in _ = outer 0 0

abbrev pub type_in : EntryValue → TypeDefinitionValue
type_in (a_type t) = t
type_in _ = resource None

abbrev pub import_in : EntryValue → ImportValue
import_in (an_import i) = i
import_in _ = record { name = []; description = descriptions.Resource }

abbrev pub export_in : EntryValue → ExportValue
export_in (an_export e) = e
export_in _ = record { name = []; sort = sorts.Component components.Type_; index = 0; ascribed = None }

-- ---- what is known where a definition stands

-- whether a nested component is around, how many of each sort there are, and the names that are imported and exported
pub record DefinedValue : Type 0 where
  pub nested : Bool
  pub scope : Scope
  pub imports : List (List ℕ)
  pub exports : List (List ℕ)

-- where no section of a component stands yet
abbrev pub nothing : DefinedValue
nothing = record { nested = false; scope = no_scope; imports = []; exports = [] }

abbrev pub imports_with : List (List ℕ) → EntryValue → List (List ℕ)
imports_with names (an_import i) = with_name names i.name
imports_with names _ = names

abbrev pub exports_with : List (List ℕ) → EntryValue → List (List ℕ)
exports_with names (an_export e) = with_name names e.name
exports_with names _ = names

abbrev pub with_entry : DefinedValue → EntryValue → DefinedValue
with_entry there e = record { nested = there.nested; scope = with_one there.scope (spaces.Of (entry_sort e)); imports = imports_with there.imports e; exports = exports_with there.exports e }

-- ---- their grammar

abbrev pub is_resource : TypeDefinitionValue → Bool
is_resource (defined t) = false
is_resource (resource f) = true
is_resource (of_instance ds) = false

-- Entries of a kind; a nested component defines no resource. Names are distinct among imports, and among exports.
abbrev pub entry_by : EntryKind → Syntax unbounded DefinedValue EntryValue
entry_by kinds.Alias = do
  a ← alias_in ◂ where_known (λ k. k.scope) alias
  gives (an_alias a)
entry_by kinds.Type_ = do
  t ← type_in ◂ tested rules.Tag (λ k t. not (k.nested && is_resource t)) (where_known (λ k. k.scope) type_definition)
  gives (a_type t)
entry_by kinds.Import = do
  n ← (λ e. (import_in e).name) ◂ tested rules.Duplicate (λ k name. is_new k.imports name) extern_name
  i ← import_in ◂ where_known (λ k. k.scope) (import_behind n)
  gives (an_import i)
entry_by kinds.Export = do
  n ← (λ e. (export_in e).name) ◂ tested rules.Duplicate (λ k name. is_new k.exports name) extern_name
  e ← export_in ◂ where_known (λ k. k.scope) (export_behind n)
  gives (an_export e)

-- ---- the bytes of their sections

abbrev pub kind_byte : EntryKind → ℕ
kind_byte kinds.Alias = 6
kind_byte kinds.Type_ = 7
kind_byte kinds.Import = 10
kind_byte kinds.Export = 11

unfoldable pub kind_of : ℕ → Result EntryKind Rule
kind_of b =
    if b == 6 then Ok kinds.Alias else
    if b == 7 then Ok kinds.Type_ else
    if b == 10 then Ok kinds.Import else
    if b == 11 then Ok kinds.Export else Err rules.Tag

-- an entry of the kind of a section's byte
abbrev pub entry_behind : Result EntryKind Rule → Syntax unbounded DefinedValue EntryValue
entry_behind (Ok k) = entry_by k
entry_behind (Err rule) = refuses rule
