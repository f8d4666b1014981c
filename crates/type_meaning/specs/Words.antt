-- What names and resources in the types of a component's bytes are (Component Model, Explainer, Import and Export Definitions; Type
-- Checking).
use Rattle.std.specs.Prelude.{ℕ, List, Bool, false, true, ◌&&◌, ◌==◌, bytes_eq, if◌then◌else◌}
use Rattle.type_meaning.specs.Tree.{Tree, Parts, named, resource, of, none, gap, part}

-- where a name is given: among the imports, or the exports, of the component; in an instance type; by the instance that is imported, or
-- exported, under a name
pub data Site : Type 0 where
  root_import : Site
  root_export : Site
  itself : Site
  imported : List ℕ → Site
  exported : List ℕ → Site

pub record Label : Type 0 where
  pub site : Site
  pub name : List ℕ

-- a resource is defined by the definition of a type that has that index, or imported under a name, or it is an instance type's own, of
-- that name
pub data Resource : Type 0 where
  defined_at : ℕ → Resource
  imported_as : Label → Resource
  its_own : List ℕ → Resource

abbrev pub BinaryTree : Type 0
BinaryTree = Tree Label Resource

abbrev pub same_site : Site → Site → Bool
same_site root_import root_import = true
same_site root_export root_export = true
same_site itself itself = true
same_site (imported n) (imported m) = bytes_eq n m
same_site (exported n) (exported m) = bytes_eq n m
same_site _ _ = false

abbrev pub same_label : Label → Label → Bool
same_label a b = same_site a.site b.site && bytes_eq a.name b.name

abbrev pub same_resource : Resource → Resource → Bool
same_resource (defined_at i) (defined_at j) = i == j
same_resource (imported_as l) (imported_as m) = same_label l m
same_resource (its_own n) (its_own m) = bytes_eq n m
same_resource _ _ = false

-- one site for another
abbrev pub moved : Site → Site → Label → Label
moved old new l = if same_site old l.site then record { site = new; name = l.name } else l

-- ---- chains aside

abbrev mutual
  pub bare : BinaryTree → BinaryTree
  bare (named n t) = bare t
  bare (resource r) = resource r
  bare (of form ps) = of form (bare_parts ps)

  pub bare_parts : Parts Label Resource → Parts Label Resource
  bare_parts none = none
  bare_parts (gap ps) = gap (bare_parts ps)
  bare_parts (part t ps) = part (bare t) (bare_parts ps)

-- ---- as the outside sees it: a name right over itself is one, and so is that of a resource over the resource

-- a tree with the names of resources
abbrev pub NamedTree : Type 0
NamedTree = Tree Label Label

abbrev pub over : Label → NamedTree → NamedTree
over n (resource l) = if same_label n l then resource l else named n (resource l)
over n (named m t) = if same_label n m then named m t else named n (named m t)
over n (of form ps) = named n (of form ps)

-- the resources have these names
abbrev mutual
  pub seen : (Resource → Label) → BinaryTree → NamedTree
  seen l (named n t) = over n (seen l t)
  seen l (resource r) = resource (l r)
  seen l (of form ps) = of form (seen_parts l ps)

  pub seen_parts : (Resource → Label) → Parts Label Resource → Parts Label Label
  seen_parts l none = none
  seen_parts l (gap ps) = gap (seen_parts l ps)
  seen_parts l (part t ps) = part (seen l t) (seen_parts l ps)
