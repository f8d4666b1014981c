-- What an instance type remembers while it is written (Component Model, Explainer, Type Definitions).
use Rattle.std.specs.Prelude.{◌≡◌, ℕ, ◌+◌, List, [], ◌∷◌, ◌++◌, fold, slice_get, Option, Some, Bool, false, true, nat_eq, if◌then◌else◌, String, string_bytes}
use Rattle.std.specs.List.{AllByRecursion as Each, flat_map}
use Rattle.std.specs.declared.alloc.Global.{Global}
use Rattle.distinct_names.specs.Names.{all_new}
use Rattle.component_definitions.specs.declared.externs.Description.TheVariants as descriptions
use Rattle.component_definitions.specs.Aliases.{instance_export, core_instance_export, outer}
use Rattle.component_sections.specs.Passed.component_instances-Declarators.{DeclaratorValue, declared_type, declared_alias, declared_export}
use Rattle.component_value_types.specs.declared.values.ValueType.TheVariants.{Index}
use Rattle.wit_types.specs.declared.kind.«Type».TheVariants.{Id}
use Rattle.wit_types.specs.declared.interface.TypeDef.{TypeDef}
use Rattle.wit_types.specs.declared.interface.TypeOwner.{TypeOwner}
use Rattle.wit_types.specs.declared.interface.TypeOwner.TheVariants as belongs
use Rattle.type_writing.specs.Passed.type_meaning-Tree.{Parts, named, resource, of, none, gap, part}
use Rattle.type_writing.specs.Passed.type_meaning-Words.{itself, imported, Label}
use Rattle.type_writing.specs.Passed.type_meaning-Items.{Item, Inside, inside_of, items_of, item_named, a_type, is_value}
use Rattle.type_writing.specs.Passed.type_meaning-Scope.{Scope}
use Rattle.type_writing.specs.Unfolding.{OwnName, WitTree, Unfolds}
use Rattle.type_writing.specs.Writing.{written, Stands}
use Rattle.type_sinks.specs.Root.{InterfaceNames, root_label, RootGood}

-- how many indices of types a declarator takes
abbrev pub declares : DeclaratorValue → ℕ
declares (declared_type t) = 1
declares (declared_alias (outer count i)) = 1
declares (declared_alias (instance_export s i name)) = 0
declares (declared_alias (core_instance_export k i name)) = 0
declares (declared_export n (descriptions.Function i)) = 0
declares (declared_export n (descriptions.Equal i)) = 1
declares (declared_export n descriptions.Resource) = 1
declares (declared_export n (descriptions.Instance i)) = 0

unfoldable pub type_count : List DeclaratorValue → ℕ
type_count ds = fold (λ n d. n + declares d) 0 ds

-- under which name a declarator exports something
abbrev pub exported_name : DeclaratorValue → List (List ℕ)
exported_name (declared_type t) = []
exported_name (declared_alias a) = []
exported_name (declared_export n d) = n ∷ []

unfoldable pub exported_names : List DeclaratorValue → List (List ℕ)
exported_names ds = flat_map exported_name ds

-- whether the owner is the interface
abbrev pub is_of : ℕ → TypeOwner → Bool
is_of own (belongs.World w) = false
is_of own (belongs.Interface i) = nat_eq i own
is_of own belongs.None = false

-- in the instance type of an interface its own names are those of the instance
abbrev pub inside_label : InterfaceNames → ℕ → OwnName → Label
inside_label names own o = if is_of own o.owner then record { site = itself; name = o.name } else root_label names o

-- in an instance of an interface that is imported under a name, its own names are those of that import
abbrev pub instance_label : InterfaceNames → ℕ → List ℕ → OwnName → Label
instance_label names own n o = if is_of own o.owner then record { site = imported n; name = o.name } else root_label names o

-- no name in the tree is of this interface
abbrev mutual
  pub IsApart : ℕ → WitTree → Type 0
  IsApart own (named o t) = (is_of own o.owner ≡ false) × IsApart own t
  IsApart own (resource o) = is_of own o.owner ≡ false
  IsApart own (of form ps) = AreApart own ps

  pub AreApart : ℕ → Parts OwnName OwnName → Type 0
  AreApart own none = Unit {0}
  AreApart own (gap ps) = AreApart own ps
  AreApart own (part t ps) = IsApart own t × AreApart own ps

-- what may be taken from instances of other interfaces doesn't speak of this one: those that are imported depend on earlier ones alone
abbrev pub TakenAreApart : (ℕ → Option ℕ) → ℕ → List TypeDef → Type 0
TakenAreApart homes own types = (id k : ℕ) (d : TypeDef) (x : String Global) (t : WitTree) → homes id ≡ Some k → slice_get types id ≡ Some d → d.name ≡ Some x → is_of own d.owner ≡ false → Unfolds types (Id id) t → IsApart own t

-- these declarators, in the root as it is or with more types, stand for this
abbrev pub StaysInside : List Item → List DeclaratorValue → Inside → Type 0
StaysInside around ds s = (more : List Item) → inside_of ((around ++ more) ∷ []) ds ≡ s

-- the instance type exports the type with that id, under its name
pub record IsExported (names : InterfaceNames) (own : ℕ) (types : List TypeDef) (s : Inside) (id : ℕ) : Type 0 where
  pub def : TypeDef
  pub there : slice_get types id ≡ Some def
  pub name : String Global
  pub named : def.name ≡ Some name
  pub owner : def.owner ≡ belongs.Interface own
  pub tree : WitTree
  pub unfolds : Unfolds types (Id id) tree
  pub has : item_named (string_bytes name) (items_of s.items) ≡ a_type (written (inside_label names own) tree)
  pub value : is_value (written (inside_label names own) tree) ≡ true

-- what is remembered is so
pub record InsideGood (names : InterfaceNames) (root_known homes : ℕ → Option ℕ) (scope : Scope) (known : ℕ → Option ℕ) (exports : List ℕ) (ds : List DeclaratorValue) (own : ℕ) (types : List TypeDef) : Type 0 where
  pub root : RootGood names root_known homes scope types
  pub stays : StaysInside scope.types ds (inside_of (scope.types ∷ []) ds)
  pub ids : (id i : ℕ) → known id ≡ Some i → Stands (inside_label names own) types (inside_of (scope.types ∷ []) ds).types (Id id) (Index i)
  pub exported : Each (IsExported names own types (inside_of (scope.types ∷ []) ds)) exports
  pub apart : TakenAreApart homes own types
  pub distinct : all_new [] (exported_names ds) ≡ true
