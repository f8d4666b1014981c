-- What types, instance types and instances in a component's bytes stand for (Component Model, Explainer, Index Spaces, Type Definitions).
use Rattle.std.specs.Prelude.{ℕ, List, [], ◌∷◌, ◌++◌, fold, slice_get, Option, Some, None, option_map, Bool, true, false, not, if◌then◌else◌, bytes_eq}
use Rattle.component_entries.specs.Passed.component_value_types-declared-values-ValueType.{ValueType}
use Rattle.component_entries.specs.Passed.component_value_types-declared-values-ValueType-TheVariants as values
use Rattle.component_entries.specs.Passed.component_value_types-Types.{DefinedTypeValue}
use Rattle.component_entries.specs.Passed.component_definitions-declared-canonical-CanonicalOption.{CanonicalOption}
use Rattle.component_entries.specs.Passed.component_definitions-declared-externs-Description.{Description}
use Rattle.component_entries.specs.Passed.component_definitions-declared-externs-Description-TheVariants as descriptions
use Rattle.component_entries.specs.Passed.component_definitions-Aliases.{AliasValue, core_instance_export, instance_export, outer}
use Rattle.component_entries.specs.Passed.component_instances-Declarators.{DeclaratorValue, declared_type, declared_alias, declared_export}
use Rattle.type_meaning.specs.Tree.{Kind, own_kind, borrow_kind, function_kind, Parts, named, resource, of, none, gap, part, put, is_resource, kind_is}
use Rattle.type_meaning.specs.Words.{Site, itself, imported, Label, Resource, imported_as, its_own, BinaryTree, moved}
use Rattle.type_meaning.specs.Syntax.{syntax_of, plain, primitive_kind}

-- whose a function is: it is the import of a name, or the lift of the core function with that index, with these options
pub data Origin : Type 0 where
  from_import : Label → Origin
  from_lift : ℕ → List CanonicalOption → Origin

-- an item of a component's index spaces of types and of instances, or under a name; an instance type has functions and types under names,
-- and an instance too, which has a site besides
mutual
  pub data Item : Type 0 where
    nothing : Item
    a_type : BinaryTree → Item
    a_function : Origin → BinaryTree → Item
    an_instance_type : Items → Item
    an_instance : Site → Items → Item

  pub data Items : Type 0 where
    no_items : Items
    and_item : List ℕ → Item → Items → Items

pub record Entry : Type 0 where
  pub name : List ℕ
  pub item : Item

abbrev pub items_of : List Entry → Items
items_of [] = no_items
items_of (e ∷ es) = and_item e.name e.item (items_of es)

abbrev pub item_named : List ℕ → Items → Item
item_named name no_items = nothing
item_named name (and_item n i more) = if bytes_eq name n then i else item_named name more

abbrev pub or_nothing : Option Item → Item
or_nothing None = nothing
or_nothing (Some i) = i

abbrev pub item_at : List Item → ℕ → Item
item_at xs i = or_nothing (slice_get xs i)

-- ---- the trees of types

abbrev pub is_function_kind : Kind → Bool
is_function_kind function_kind = true
is_function_kind _ = false

abbrev pub is_handle_kind : Kind → Bool
is_handle_kind own_kind = true
is_handle_kind borrow_kind = true
is_handle_kind _ = false

abbrev pub is_function : BinaryTree → Bool
is_function t = kind_is is_function_kind t

abbrev pub is_value : BinaryTree → Bool
is_value t = kind_is (λ k. not (is_function_kind k)) t

-- the tree of a type that passes the test
abbrev pub type_if : (BinaryTree → Bool) → Item → Option BinaryTree
type_if test (a_type t) = if test t then Some t else None
type_if test _ = None

abbrev pub type_at : (BinaryTree → Bool) → List Item → ℕ → Option BinaryTree
type_at test types i = type_if test (item_at types i)

-- a part of a form: a handle's is a resource, any other's is of values
abbrev pub part_test : Kind → BinaryTree → Bool
part_test kind t = if is_handle_kind kind then is_resource t else is_value t

abbrev pub part_tree : Kind → List Item → ValueType → Option BinaryTree
part_tree kind types (values.Primitive p) = Some (of (plain (primitive_kind p)) none)
part_tree kind types (values.Index i) = type_at (part_test kind) types i

abbrev pub with_part : Option BinaryTree → Option (Parts Label Resource) → Option (Parts Label Resource)
with_part (Some t) (Some ps) = Some (part t ps)
with_part (Some t) None = None
with_part None ps = None

abbrev pub parts_in : Kind → List Item → List (Option ValueType) → Option (Parts Label Resource)
parts_in kind types [] = Some none
parts_in kind types (None ∷ more) = option_map gap (parts_in kind types more)
parts_in kind types (Some v ∷ more) = with_part (part_tree kind types v) (parts_in kind types more)

abbrev pub type_or_nothing : Option BinaryTree → Item
type_or_nothing None = nothing
type_or_nothing (Some t) = a_type t

-- each index stands for a tree, in which no index is left
abbrev pub type_item : List Item → DefinedTypeValue → Item
type_item types d = type_or_nothing (option_map (of (syntax_of d).form) (parts_in (syntax_of d).form.kind types (syntax_of d).parts))

-- ---- instance types: what they define and export, seen from inside

pub record Inside : Type 0 where
  pub types : List Item
  pub items : List Entry

abbrev pub no_inside : Inside
no_inside = record { types = []; items = [] }

abbrev pub own_label : List ℕ → Label
own_label n = record { site = itself; name = n }

-- one more name over a type
abbrev pub named_item : Label → Item → Item
named_item l (a_type t) = a_type (named l t)
named_item l i = i

-- the function that is imported under a name, where there is a type of one
abbrev pub function_import : Label → Option BinaryTree → Item
function_import l None = nothing
function_import l (Some t) = a_function (from_import l) t

abbrev pub declared_item : List Item → List ℕ → Description → Item
declared_item types n (descriptions.Function i) = function_import (own_label n) (type_at is_function types i)
declared_item types n (descriptions.Equal i) = named_item (own_label n) (item_at types i)
declared_item types n descriptions.Resource = a_type (named (own_label n) (resource (its_own n)))
declared_item types n (descriptions.Instance i) = nothing

-- a type that is exported takes an index
abbrev pub type_space : Description → Item → List Item
type_space (descriptions.Function i) item = []
type_space (descriptions.Equal i) item = item ∷ []
type_space descriptions.Resource item = item ∷ []
type_space (descriptions.Instance i) item = []

-- the types around, the innermost first, have an index; an instance type sees itself first
abbrev pub outer_item : List (List Item) → ℕ → ℕ → Item
outer_item scopes count i = or_nothing (option_map (λ types. item_at types i) (slice_get scopes count))

-- an alias in an instance type is of a type around
abbrev pub alias_space : List (List Item) → AliasValue → List Item
alias_space scopes (outer count i) = outer_item scopes count i ∷ []
alias_space scopes (instance_export s i name) = []
alias_space scopes (core_instance_export k i name) = []

abbrev pub declared : List (List Item) → Inside → DeclaratorValue → Inside
declared around s (declared_type t) = record { types = s.types ++ type_item s.types t ∷ []; items = s.items }
declared around s (declared_alias a) = record { types = s.types ++ alias_space (s.types ∷ around) a; items = s.items }
declared around s (declared_export n d) =
    let item = declared_item s.types n d in
    record { types = s.types ++ type_space d item; items = s.items ++ record { name = n; item = item } ∷ [] }

abbrev pub inside_of : List (List Item) → List DeclaratorValue → Inside
inside_of around ds = fold (declared around) no_inside ds

abbrev pub instance_type : List (List Item) → List DeclaratorValue → Item
instance_type around ds = an_instance_type (items_of (inside_of around ds).items)

-- ---- instances that are imported

abbrev pub put_origin : (Label → Label) → Origin → Origin
put_origin f (from_import l) = from_import (f l)
put_origin f (from_lift n os) = from_lift n os

abbrev pub put_item : (Label → Label) → (Resource → BinaryTree) → Item → Item
put_item f g (a_type t) = a_type (put f g t)
put_item f g (a_function o t) = a_function (put_origin f o) (put f g t)
put_item f g i = i

abbrev pub put_items : (Label → Label) → (Resource → BinaryTree) → Items → Items
put_items f g no_items = no_items
put_items f g (and_item n i more) = and_item n (put_item f g i) (put_items f g more)

-- the own resources of the type are those of the instance, and so are its names
abbrev pub new_resource : List ℕ → Resource → BinaryTree
new_resource n (its_own r) = resource (imported_as (record { site = imported n; name = r }))
new_resource n r = resource r

abbrev pub instance_import : List ℕ → Item → Item
instance_import n (an_instance_type asked) = an_instance (imported n) (put_items (moved itself (imported n)) (new_resource n) asked)
instance_import n _ = nothing
