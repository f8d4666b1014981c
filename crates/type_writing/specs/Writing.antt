-- What stands in a space of types for the types of an arena.
use Rattle.std.specs.Prelude.{◌≡◌, ℕ, List, [], ◌∷◌, ◌++◌, flat_map, slice_get, nat_eq, if◌then◌else◌, Option, Some, None, Bool, true, false, String, string_bytes}
use Rattle.std.specs.declared.alloc.Global.{Global}
use Rattle.wit_types.specs.declared.kind.«Type».{«Type» as Ref}
use Rattle.wit_types.specs.declared.kind.TypeDefKind.{TypeDefKind}
use Rattle.wit_types.specs.declared.interface.TypeDef.{TypeDef}
use Rattle.wit_types.specs.declared.interface.TypeOwner.{TypeOwner}
use Rattle.type_meaning.specs.Passed.component_value_types-declared-values-ValueType.{ValueType}
use Rattle.type_meaning.specs.Passed.component_value_types-declared-values-ValueType-TheVariants.{Index}
use Rattle.type_meaning.specs.Passed.component_value_types-Types.{DefinedTypeValue}
use Rattle.type_meaning.specs.Tree.{Parts, named, resource, put, put_parts, record_kind}
use Rattle.type_meaning.specs.Words.{Site, itself, Label, Resource, imported_as, its_own, BinaryTree}
use Rattle.type_meaning.specs.Items.{Item, part_tree, is_function_kind, is_handle_kind}
use Rattle.type_meaning.specs.Syntax.{syntax_of}
use Rattle.type_writing.specs.Unfolding.{OwnName, WitTree, FormOf, form_of, Unfolds, KindUnfolds}

-- ---- trees in the words of the bytes

-- in the type of an instance a resource is its own, elsewhere it is imported
abbrev pub resource_at : Site → Label → Resource
resource_at itself l = its_own l.name
resource_at _ l = imported_as l

abbrev pub resource_of : Label → Resource
resource_of l = resource_at l.site l

-- a resource stands under its own name
abbrev pub own_resource : Label → BinaryTree
own_resource l = named l (resource (resource_of l))

abbrev pub written : (OwnName → Label) → WitTree → BinaryTree
written label = put label (λ r. own_resource (label r))

abbrev pub written_parts : (OwnName → Label) → Parts OwnName OwnName → Parts Label Resource
written_parts label = put_parts label (λ r. own_resource (label r))

-- ---- what stands for a type

-- what a value type is in a space
abbrev pub value_tree : List Item → ValueType → Option BinaryTree
value_tree space v = part_tree record_kind space v

-- it stands for the tree of the type
abbrev pub Stands : (OwnName → Label) → List TypeDef → List Item → Ref → ValueType → Type 0
Stands label types space r v = (t : WitTree) × Unfolds types r t × (value_tree space v ≡ Some (written label t))

abbrev pub PartStands : (OwnName → Label) → List TypeDef → List Item → Option Ref → Option ValueType → Type 0
PartStands label types space None None = Unit {0}
PartStands label types space None (Some v) = ⊥
PartStands label types space (Some r) None = ⊥
PartStands label types space (Some r) (Some v) = Stands label types space r v

-- and so does each part
abbrev pub PartsStand : (OwnName → Label) → List TypeDef → List Item → List (Option Ref) → List (Option ValueType) → Type 0
PartsStand label types space [] [] = Unit {0}
PartsStand label types space [] (v ∷ vs) = ⊥
PartsStand label types space (r ∷ rs) [] = ⊥
PartsStand label types space (r ∷ rs) (v ∷ vs) = PartStands label types space r v × PartsStand label types space rs vs

-- a type that is defined has the form of the kind, over parts that stand for its parts
pub record IsDefinedAs (label : OwnName → Label) (types : List TypeDef) (space : List Item) (k : TypeDefKind) (d : DefinedTypeValue) : Type 0 where
  pub form : FormOf
  pub is : form_of k ≡ Some form
  pub same : (syntax_of d).form ≡ form.form
  pub parts : PartsStand label types space form.parts (syntax_of d).parts
  pub values : is_function_kind form.form.kind ≡ false
  pub no_handle : is_handle_kind form.form.kind ≡ false

-- an index stands for a kind, which isn't under the name of its type yet
abbrev pub KindStands : (OwnName → Label) → List TypeDef → List Item → TypeDefKind → ℕ → Type 0
KindStands label types space k i = (t : WitTree) × KindUnfolds types k t × (value_tree space (Index i) ≡ Some (written label t))

-- one list is the beginning of the other
abbrev pub Begins : {X : Type 0} → List X → List X → Type 0
Begins {X} xs ys = (more : List X) × (ys ≡ xs ++ more)

-- ---- what stays while types are written

-- of the component: the names under which interfaces are imported, by their ids, those under which something is imported and the index that
-- is remembered of each of its types, while the type of an instance is written, and what its indices of functions and of instances stand for
pub record Around : Type 0 where
  pub interfaces : List (List ℕ)
  pub imported : List (List ℕ)
  pub known : ℕ → Option ℕ
  pub functions : List Item
  pub instances : List Item

-- the label that each name has here, whose types are given their names here, the instance from which each type of others may be taken, by
-- the type's id, and the interface whose instance's type is written
pub record Setting : Type 0 where
  pub label : OwnName → Label
  pub is_own : TypeOwner → Bool
  pub homes : ℕ → Option ℕ
  pub interface : Option ℕ
  pub around : Around

-- the type has been given its name, if it is one that is given here
abbrev pub HasItsName : Setting → List TypeDef → (ℕ → Type 0) → ℕ → Type 0
HasItsName s types given id = (d : TypeDef) (x : String Global) → slice_get types id ≡ Some d → d.name ≡ Some x → s.is_own d.owner ≡ true → given id

-- the name that a type is given here
abbrev pub name_given : Bool → Option (String Global) → List (List ℕ)
name_given true (Some x) = string_bytes x ∷ []
name_given true None = []
name_given false x = []

abbrev pub name_of : Setting → Option TypeDef → List (List ℕ)
name_of s None = []
name_of s (Some d) = name_given (s.is_own d.owner) d.name

-- the names that these types are given, in order
abbrev pub names_of_types : Setting → List TypeDef → List ℕ → List (List ℕ)
names_of_types s types ids = flat_map (λ id. name_of s (slice_get types id)) ids

-- ---- what is remembered

-- an index is remembered of it
abbrev pub IsRemembered : (ℕ → Option ℕ) → ℕ → Type 0
IsRemembered table id = (i : ℕ) × (table id ≡ Some i)

-- of one more type, and of all others what was
abbrev pub remembering : (ℕ → Option ℕ) → ℕ → ℕ → ℕ → Option ℕ
remembering table id index k = if nat_eq id k then Some index else table k
