-- Types of instances (Component Model Binary, Type Definitions, Instance Declarators).
use Rattle.std.specs.Prelude.{ℕ, List, [], ◌∷◌, ◌++◌, map, Bool, true, false, ◌==◌, if◌then◌else◌}
use Rattle.binary_grammar.specs.declared.fault.Rule.TheVariants as rules
use Rattle.binary_grammar.specs.Syntax.{Syntax, unbounded, ◌◂◌, ◌>>=◌, one_byte, gives, refuses, tested, growing, where_known}
use Rattle.distinct_names.specs.Names.{is_new, with_name}
use Rattle.component_definitions.specs.Passed.component_value_types-declared-scope-Scope.{Scope}
use Rattle.component_definitions.specs.Passed.component_value_types-declared-values-PrimitiveValueType-TheVariants as primitives
use Rattle.component_definitions.specs.Passed.component_value_types-Scope.{Grammar}
use Rattle.component_definitions.specs.Passed.component_value_types-Types.{DefinedTypeValue, defined_type_value, defined_type, primitive}
use Rattle.component_definitions.specs.declared.sorts.ComponentSort.TheVariants as components
use Rattle.component_definitions.specs.declared.sorts.Sort.{Sort}
use Rattle.component_definitions.specs.declared.sorts.Sort.TheVariants as sorts
use Rattle.component_definitions.specs.declared.externs.Description.{Description}
use Rattle.component_definitions.specs.declared.externs.Description.TheVariants as descriptions
use Rattle.component_definitions.specs.declared.counting.IndexSpace.TheVariants as spaces
use Rattle.component_definitions.specs.Aliases.{AliasValue, alias_value, alias_sort, alias, outer}
use Rattle.component_definitions.specs.Externs.{extern_name, description}
use Rattle.component_definitions.specs.Counting.{with_one, described_sort, inside}
use Rattle.component_instances.specs.declared.declarators.Declarator.{Declarator}
use Rattle.component_instances.specs.declared.declarators.Declarator.TheVariants as code
use Rattle.component_instances.specs.declared.declarators.Declared.{Declared}
use Rattle.component_instances.specs.declared.declarators.InstanceType.{InstanceType}

-- ---- declarators

pub data DeclaratorValue : Type 0 where
  declared_type : DefinedTypeValue → DeclaratorValue
  declared_alias : AliasValue → DeclaratorValue
  declared_export : List ℕ → Description → DeclaratorValue

abbrev pub declarator_value : Declarator → DeclaratorValue
declarator_value (code.Type_ t) = declared_type (defined_type_value t)
declarator_value (code.Alias a) = declared_alias (alias_value a)
declarator_value (code.Export name d) = declared_export name.now d

abbrev pub declarator_byte : DeclaratorValue → ℕ
declarator_byte (declared_type t) = 1
declarator_byte (declared_alias a) = 2
declarator_byte (declared_export name d) = 4

-- its parts, and any value where it has another part
abbrev pub type_in : DeclaratorValue → DefinedTypeValue
type_in (declared_type t) = t
type_in _ = primitive primitives.Bool

abbrev pub alias_in : DeclaratorValue → AliasValue
alias_in (declared_alias a) = a
alias_in _ = outer 0 0

abbrev pub name_in : DeclaratorValue → List ℕ
name_in (declared_export name d) = name
name_in _ = []

abbrev pub description_in : DeclaratorValue → Description
description_in (declared_export name d) = d
description_in _ = descriptions.Resource

-- what is known where a declarator stands: how many of each sort there are, and the names that are exported
pub record DeclaredValue : Type 0 where
  pub scope : Scope
  pub names : List (List ℕ)

abbrev pub declared : Declared → DeclaredValue
declared d = record { scope = d.scope; names = d.names }

-- each declarator takes the next index of one sort
abbrev pub declared_sort : DeclaratorValue → Sort
declared_sort (declared_type t) = sorts.Component components.Type_
declared_sort (declared_alias a) = alias_sort a
declared_sort (declared_export name d) = sorts.Component (described_sort d)

abbrev pub declared_names : List (List ℕ) → DeclaratorValue → List (List ℕ)
declared_names names (declared_type t) = names
declared_names names (declared_alias a) = names
declared_names names (declared_export name d) = with_name names name

abbrev pub declared_with : DeclaredValue → DeclaratorValue → DeclaredValue
declared_with k d = record { scope = with_one k.scope (spaces.Of (declared_sort d)); names = declared_names k.names d }

pub data DeclaratorForm : Type 0 where
  a_type : DeclaratorForm
  an_alias : DeclaratorForm
  an_export : DeclaratorForm
  other : DeclaratorForm

unfoldable pub declarator_form_of : ℕ → DeclaratorForm
declarator_form_of b = if b == 1 then a_type else if b == 2 then an_alias else if b == 4 then an_export else other

-- an instance exports functions and types alone
abbrev pub is_exported : Description → Bool
is_exported (descriptions.Instance t) = false
is_exported _ = true

abbrev pub declarator_behind : DeclaratorForm → Syntax unbounded DeclaredValue DeclaratorValue
declarator_behind a_type = do
  t ← type_in ◂ where_known (λ k. k.scope) defined_type
  gives (declared_type t)
declarator_behind an_alias = do
  a ← alias_in ◂ where_known (λ k. k.scope) alias
  gives (declared_alias a)
declarator_behind an_export = do
  n ← name_in ◂ tested rules.Duplicate (λ k name. is_new k.names name) (where_known (λ k. k.scope) extern_name)
  d ← description_in ◂ tested rules.Tag (λ _ d. is_exported d) (where_known (λ k. k.scope) description)
  gives (declared_export n d)
declarator_behind other = refuses rules.Tag

unfoldable pub declarator : Syntax unbounded DeclaredValue DeclaratorValue
declarator = do
  b ← declarator_byte ◂ one_byte
  declarator_behind (declarator_form_of b)

abbrev pub instance_type_value : InstanceType → List DeclaratorValue
instance_type_value t = map declarator_value t.declarators.items

unfoldable pub instance_type : Grammar (List DeclaratorValue)
instance_type = where_known (λ there. record { scope = inside there; names = [] }) (growing declared_with declarator)
