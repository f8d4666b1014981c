-- What the indices of a component's types, functions and instances stand for, and what it imports and exports (Component Model, Explainer,
-- Index Spaces, Import and Export Definitions).
use Rattle.std.specs.Prelude.{ℕ, List, [], ◌∷◌, ◌++◌, length, fold, Option, Some, None, Bool, true, false, if◌then◌else◌}
use Rattle.component_entries.specs.Passed.component_definitions-declared-sorts-ComponentSort.{ComponentSort}
use Rattle.component_entries.specs.Passed.component_definitions-declared-sorts-ComponentSort-TheVariants as sorts
use Rattle.component_entries.specs.Passed.component_definitions-declared-sorts-Sort.{Sort}
use Rattle.component_entries.specs.Passed.component_definitions-declared-sorts-Sort-TheVariants.{Component, Core}
use Rattle.component_entries.specs.Passed.component_definitions-declared-externs-Description.{Description}
use Rattle.component_entries.specs.Passed.component_definitions-declared-externs-Description-TheVariants as descriptions
use Rattle.component_entries.specs.Passed.component_definitions-Aliases.{AliasValue, core_instance_export, instance_export, outer}
use Rattle.component_entries.specs.Passed.component_instances-TypeDefinitions.{TypeDefinitionValue, defined, of_instance}
use Rattle.component_entries.specs.Passed.component_instances-TypeDefinitions as definitions
use Rattle.component_entries.specs.Entries.{EntryValue, an_alias, an_import, an_export}
use Rattle.component_entries.specs.Entries as entries
use Rattle.type_meaning.specs.Tree.{named, resource, same_tree, is_resource}
use Rattle.type_meaning.specs.Words.{Site, root_import, root_export, exported as exported_site, Label, defined_at, imported_as, BinaryTree, bare, same_label, same_resource}
use Rattle.type_meaning.specs.Items.{Origin, Item, Items, nothing, a_type, a_function, an_instance_type, an_instance, no_items, and_item, Entry, item_named, item_at, is_function, type_if, type_at, type_item, named_item, function_import, outer_item, instance_type, instance_import}

pub record Scope : Type 0 where
  pub types : List Item
  pub functions : List Item
  pub instances : List Item
  pub imports : List Entry
  pub exports : List Entry

abbrev pub no_scope : Scope
no_scope = record { types = []; functions = []; instances = []; imports = []; exports = [] }

-- one behind the other
abbrev pub joined : Scope → Scope → Scope
joined s t = record {
  types = s.types ++ t.types;
  functions = s.functions ++ t.functions;
  instances = s.instances ++ t.instances;
  imports = s.imports ++ t.imports;
  exports = s.exports ++ t.exports;
}

-- the next item of a sort
abbrev pub in_space : ComponentSort → Item → Scope
in_space sorts.Function item = record no_scope { functions = item ∷ [] }
in_space sorts.Type_ item = record no_scope { types = item ∷ [] }
in_space sorts.Instance item = record no_scope { instances = item ∷ [] }

-- an item, if it is of the sort
abbrev pub of_sort : ComponentSort → Item → Item
of_sort sorts.Function (a_function o t) = a_function o t
of_sort sorts.Type_ (a_type t) = a_type t
of_sort sorts.Type_ (an_instance_type is) = an_instance_type is
of_sort sorts.Instance (an_instance s is) = an_instance s is
of_sort _ _ = nothing

abbrev pub sort_of : Description → ComponentSort
sort_of (descriptions.Function i) = sorts.Function
sort_of (descriptions.Equal i) = sorts.Type_
sort_of descriptions.Resource = sorts.Type_
sort_of (descriptions.Instance i) = sorts.Instance

-- ---- definitions

-- a resource that is defined is new
abbrev pub definition_item : Scope → TypeDefinitionValue → Item
definition_item s (defined t) = type_item s.types t
definition_item s (definitions.resource f) = a_type (resource (defined_at (length s.types)))
definition_item s (of_instance ds) = instance_type (s.types ∷ []) ds

-- what an instance exports under a name
abbrev pub exported : Item → List ℕ → Item
exported (an_instance site is) name = item_named name is
exported _ name = nothing

abbrev pub alias_scope : Scope → AliasValue → Scope
alias_scope s (instance_export sort i name) = in_space sort (of_sort sort (exported (item_at s.instances i) name))
alias_scope s (core_instance_export kind i name) = no_scope
alias_scope s (outer count i) = in_space sorts.Type_ (outer_item (s.types ∷ []) count i)

abbrev pub import_label : List ℕ → Label
import_label n = record { site = root_import; name = n }

-- an import stands for itself; a resource that is imported is new
abbrev pub imported_item : Scope → List ℕ → Description → Item
imported_item s n (descriptions.Function i) = function_import (import_label n) (type_at is_function s.types i)
imported_item s n (descriptions.Equal i) = named_item (import_label n) (item_at s.types i)
imported_item s n descriptions.Resource = a_type (named (import_label n) (resource (imported_as (import_label n))))
imported_item s n (descriptions.Instance i) = instance_import n (item_at s.types i)

-- ---- exports

abbrev pub export_label : List ℕ → Label
export_label n = record { site = root_export; name = n }

-- an instance that is exported gives its types one name more
abbrev pub named_items : Site → Items → Items
named_items site no_items = no_items
named_items site (and_item n i more) = and_item n (named_item (record { site = site; name = n }) i) (named_items site more)

-- what an export stands for to which no type is ascribed: a type has a name more, a function is what it was
abbrev pub renamed : List ℕ → Item → Item
renamed n (a_type t) = a_type (named (export_label n) t)
renamed n (an_instance site is) = an_instance (exported_site n) (named_items (exported_site n) is)
renamed n i = i

-- the same tree, chains aside; resources by identity
abbrev pub is_same : BinaryTree → BinaryTree → Bool
is_same t u = same_tree same_label same_resource (bare t) (bare u)

abbrev pub function_if_same : Origin → BinaryTree → Option BinaryTree → Item
function_if_same o t None = nothing
function_if_same o t (Some u) = if is_same u t then a_function o u else nothing

abbrev pub type_if_same : Label → BinaryTree → Option BinaryTree → Item
type_if_same l t None = nothing
type_if_same l t (Some u) = if is_same u t then a_type (named l u) else nothing

-- with one it has that one, with its chain, where that is its own, chains aside; of an instance with one nothing is known
abbrev pub ascribed : List Item → List ℕ → Description → Item → Item
ascribed types n (descriptions.Function i) (a_function o t) = function_if_same o t (type_at is_function types i)
ascribed types n (descriptions.Equal i) (a_type t) = type_if_same (export_label n) t (type_if (λ _. true) (item_at types i))
ascribed types n descriptions.Resource (a_type t) = if is_resource t then a_type (named (export_label n) t) else nothing
ascribed types n _ _ = nothing

abbrev pub exported_item : List Item → List ℕ → Option Description → Item → Item
exported_item types n None item = renamed n item
exported_item types n (Some d) item = ascribed types n d item

-- the items of a sort, by their indices
abbrev pub space_of : ComponentSort → Scope → List Item
space_of sorts.Function s = s.functions
space_of sorts.Type_ s = s.types
space_of sorts.Instance s = s.instances

-- an item that is exported takes the next index of its sort
abbrev pub export_scope : Scope → List ℕ → Sort → ℕ → Option Description → Scope
export_scope s n (Component sort) i d =
    let item = exported_item s.types n d (item_at (space_of sort s) i) in
    joined (in_space sort item) (record no_scope { exports = record { name = n; item = item } ∷ [] })
export_scope s n (Core kind) i d = no_scope

-- what an alias, a type, an import or an export adds
abbrev pub adds : Scope → EntryValue → Scope
adds s (an_alias a) = alias_scope s a
adds s (entries.a_type t) = in_space sorts.Type_ (definition_item s t)
adds s (an_import i) =
    let item = imported_item s i.name i.description in
    joined (in_space (sort_of i.description) item) (record no_scope { imports = record { name = i.name; item = item } ∷ [] })
adds s (an_export e) = export_scope s e.name e.sort e.index e.ascribed

-- the scope behind one more
abbrev pub after : Scope → EntryValue → Scope
after s e = joined s (adds s e)

unfoldable pub meaning : List EntryValue → Scope
meaning es = fold after no_scope es
