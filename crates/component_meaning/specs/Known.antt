-- Which definitions index meaning knows so far: all but nested components and their instances, resources, and what is asynchronous
-- (Component Model Binary, Component Definitions).
use Rattle.std.specs.Prelude.{Bool, true, false, Option, Some, None, ◌&&◌}
use Rattle.std.specs.List.{list_all}
use Rattle.component_sections.specs.Passed.component_definitions-declared-sorts-Sort.{Sort}
use Rattle.component_sections.specs.Passed.component_definitions-declared-sorts-Sort-TheVariants as sorts
use Rattle.component_sections.specs.Passed.component_definitions-declared-sorts-ComponentSort-TheVariants as components
use Rattle.component_sections.specs.Passed.component_definitions-declared-externs-Description.{Description}
use Rattle.component_sections.specs.Passed.component_definitions-declared-externs-Description-TheVariants as descriptions
use Rattle.component_sections.specs.Passed.component_definitions-Canonical.{CanonicalValue, lift, lower, resource_new, resource_drop, resource_rep}
use Rattle.component_sections.specs.Passed.component_instances-Declarators.{DeclaratorValue, declared_type, declared_alias, declared_export}
use Rattle.component_sections.specs.Passed.component_instances-TypeDefinitions.{TypeDefinitionValue, defined, resource, of_instance}
use Rattle.component_sections.specs.Passed.component_entries-Entries.{EntryValue, an_alias, a_type, an_import, an_export}
use Rattle.component_sections.specs.Component.{DefinitionValue, a_core_module, a_core_instance, a_component, an_instance, a_canonical, an_entry}

-- a resource type is none of these
abbrev pub is_known_description : Description → Bool
is_known_description (descriptions.Function i) = true
is_known_description (descriptions.Equal i) = true
is_known_description descriptions.Resource = false
is_known_description (descriptions.Instance i) = true

abbrev pub is_known_declarator : DeclaratorValue → Bool
is_known_declarator (declared_type t) = true
is_known_declarator (declared_alias a) = true
is_known_declarator (declared_export n d) = is_known_description d

abbrev pub is_known_type : TypeDefinitionValue → Bool
is_known_type (defined t) = true
is_known_type (resource f) = false
is_known_type (of_instance ds) = list_all is_known_declarator ds

abbrev pub is_known_canonical : CanonicalValue → Bool
is_known_canonical (lift c os t) = true
is_known_canonical (lower f os) = true
is_known_canonical (resource_new t) = false
is_known_canonical (resource_drop t) = false
is_known_canonical (resource_rep t) = false

abbrev pub is_known_ascription : Option Description → Bool
is_known_ascription None = true
is_known_ascription (Some d) = is_known_description d

-- functions and types are exported, and no instances
abbrev pub is_known_export : Sort → Bool
is_known_export (sorts.Core kind) = false
is_known_export (sorts.Component components.Function) = true
is_known_export (sorts.Component components.Type_) = true
is_known_export (sorts.Component components.Instance) = false

abbrev pub is_known_entry : EntryValue → Bool
is_known_entry (an_alias a) = true
is_known_entry (a_type t) = is_known_type t
is_known_entry (an_import i) = is_known_description i.description
is_known_entry (an_export e) = is_known_export e.sort && is_known_ascription e.ascribed

abbrev pub is_known : DefinitionValue → Bool
is_known (a_core_module bytes) = true
is_known (a_core_instance i) = true
is_known (a_component es) = false
is_known (an_instance i) = false
is_known (a_canonical c) = is_known_canonical c
is_known (an_entry e) = is_known_entry e
