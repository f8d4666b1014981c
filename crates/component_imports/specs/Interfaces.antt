-- The interfaces that are imported since something of them is needed (WIT, Item: `interface`; Component Model, Explainer, Import and Export
-- Definitions).
use Rattle.std.specs.Prelude.{◌≡◌, ◌<◌, ◌⊎◌, ℕ, suc, Bool, true, false, List, [], ◌∷◌, ◌++◌, length, map, flat_map, slice_get, Option, Some, None, Vec, String, string_bytes}
use Rattle.std.specs.Borrow.{Bor}
use Rattle.std.specs.declared.alloc.Global.{Global}
use Rattle.std.specs.List.{AllByRecursion as Each}
use Rattle.wit_order.specs.Order.{Has}
use Rattle.wit_types.specs.declared.function.Function.{Function}
use Rattle.wit_types.specs.declared.interface.TypeDef.{TypeDef}
use Rattle.wit_reach.specs.Ids.{function_ids}
use Rattle.wit_reach.specs.Needed.{AreNeeded}
use Rattle.wit_reach.specs.Paths.{AreEnds}
use Rattle.wit_reach.specs.Made.{IsMadeOfWithin}
use Rattle.wit_types.specs.declared.interface.TypeOwner.TheVariants as belongs
use Rattle.type_sinks.specs.Passed.type_meaning-Words.{imported}
use Rattle.type_sinks.specs.Passed.type_writing-Writing.{Begins, HasItsName, name_given, IsRemembered}
use Rattle.type_sinks.specs.declared.root.Root.{Root}
use Rattle.type_sinks.specs.Kept.{index_of}
use Rattle.wit_types.specs.declared.kind.«Type».TheVariants.{Id}
use Rattle.type_sinks.specs.Passed.type_writing-Unfolding.{WitTree, Unfolds}
use Rattle.type_sinks.specs.Inside.{is_of, IsApart}
use Rattle.type_sinks.specs.Root.{IsHome}
use Rattle.type_sinks.specs.Views.{root_scope, root_names, interface_names, RootIsGood, IsInstanceWith, IsTypeOf, InstanceHasFunction}
use Rattle.component_imports.specs.Functions.{functions_of, function_names}
use Rattle.type_sinks.specs.Views.{setting_over}
use Rattle.component_imports.specs.Interface.{interface_name, IsInterfaceImported, IsUnready}

-- ---- what is asked for

-- the types that functions take and give
abbrev pub ids_of : List Function → List ℕ
ids_of fs = flat_map function_ids fs

-- the functions that are linked, interface by interface
abbrev pub linked_of : List (Vec (Bor Function) Global) → List (List Function)
linked_of vs = map (λ (v : Vec (Bor Function) Global). functions_of v.items) vs

abbrev pub asked : List ℕ → List (List Function) → List ℕ
asked others linked = others ++ flat_map ids_of linked

-- ---- interfaces

-- a type or a function of it is needed
abbrev pub is_needed : List ℕ → List Function → Bool
is_needed [] [] = false
is_needed [] (f ∷ fs) = true
is_needed (i ∷ ids) fs = true

-- the names of those of these types that are the interface's
abbrev pub owned_name : ℕ → Option TypeDef → List (List ℕ)
owned_name own None = []
owned_name own (Some d) = name_given (is_of own d.owner) d.name

abbrev pub owned_names : ℕ → List TypeDef → List ℕ → List (List ℕ)
owned_names own types ids = flat_map (λ id. owned_name own (slice_get types id)) ids

-- an instance of the interface is imported: it exports exactly these types and functions, each under its name
pub record HasInterface (r : Root) (types : List TypeDef) (interface : ℕ) (needed : List ℕ) (functions : List Function) : Type 0 where
  pub instance : ℕ
  pub items : IsInstanceWith r instance (imported (interface_name r interface)) (owned_names interface types needed ++ function_names functions)
  pub homes : Each (HasItsName (setting_over r interface) types (λ id. IsHome (interface_names r) types (root_scope r).instances id instance)) needed
  pub has : Each (λ f. InstanceHasFunction r instance (imported (interface_name r interface)) types (string_bytes f.name) f.params.items f.result) functions

-- all that was there stays, and no type is remembered
pub record Stays (old new : Root) (types : List TypeDef) : Type 0 where
  pub interfaces : interface_names new ≡ interface_names old
  pub types_stay : Begins (root_scope old).types (root_scope new).types
  pub functions_stay : (root_scope new).functions ≡ (root_scope old).functions
  pub instances_stay : Begins (root_scope old).instances (root_scope new).instances
  pub known : index_of new.known ≡ index_of old.known
  pub homes_stay : (id : ℕ) → IsRemembered (index_of old.homes) id → IsRemembered (index_of new.homes) id
  pub good : RootIsGood new types

-- a type of an interface doesn't speak of later ones
abbrev pub EarlierAreApart : List TypeDef → Type 0
EarlierAreApart types = (own id j : ℕ) (d : TypeDef) (x : String Global) (t : WitTree) → slice_get types id ≡ Some d → d.owner ≡ belongs.Interface j → j < own → d.name ≡ Some x → Unfolds types (Id id) t → IsApart own t

-- one more name, if it's needed
abbrev pub name_if : Bool → List ℕ → List (List ℕ)
name_if true name = name ∷ []
name_if false name = []

-- with what its needed types and functions are made of, as far as the interface sees it
pub record IsImportedWith (old new : Root) (types : List TypeDef) (interface : ℕ) (needed : List ℕ) (functions : List Function) : Type 0 where
  pub ids : List ℕ
  pub are : AreEnds (IsMadeOfWithin (belongs.Interface interface) types) (Has (needed ++ ids_of functions)) ids
  pub imported : IsInterfaceImported old new types interface ids functions

pub record IsImportedIfNeeded (old new : Root) (types : List TypeDef) (interface : ℕ) (needed : List ℕ) (functions : List Function) : Type 0 where
  pub stays : Stays old new types
  pub names : root_names new ≡ root_names old ++ name_if (is_needed needed functions) (interface_name old interface)
  pub homes_only : (id k : ℕ) → index_of new.homes id ≡ Some k → (index_of old.homes id ≡ Some k) ⊎ IsTypeOf types id interface
  pub imported : is_needed needed functions ≡ true → IsImportedWith old new types interface needed functions

-- why one isn't imported with that
abbrev pub IsUnreadyWith : Root → List TypeDef → ℕ → List ℕ → List Function → Type 0
IsUnreadyWith r types interface needed functions = (ids : List ℕ) × AreEnds (IsMadeOfWithin (belongs.Interface interface) types) (Has (needed ++ ids_of functions)) ids × IsUnready r types interface ids functions

-- the names of the interfaces that are needed, by rising ids
abbrev pub names_from : (ℕ → List ℕ) → ℕ → List (List ℕ) → List (List Function) → List (List ℕ)
names_from name i [] linked = []
names_from name i (ids ∷ needed) [] = []
names_from name i (ids ∷ needed) (fs ∷ linked) = name_if (is_needed ids fs) (name i) ++ names_from name (suc i) needed linked

-- and that instance is the interface's among these, which are by the interfaces' ids
abbrev pub HasInterfaceAt : Root → List TypeDef → List (Option ℕ) → ℕ → List ℕ → List Function → Type 0
HasInterfaceAt r types instances interface needed functions = (h : HasInterface r types interface needed functions) × (slice_get instances interface ≡ Some (Some h.instance))

-- exactly the interfaces that are needed are imported, in rising order, each with exactly what is needed of it, by these instances, which are
-- by the ids of all interfaces
pub record AreImported (old new : Root) (types : List TypeDef) (instances : List (Option ℕ)) (needed : List (List ℕ)) (linked : List (List Function)) : Type 0 where
  pub stays : Stays old new types
  pub names : root_names new ≡ root_names old ++ names_from (interface_name old) 0 needed linked
  pub long : length instances ≡ length linked
  pub has : (i : ℕ) (ids : List ℕ) (fs : List Function) → slice_get needed i ≡ Some ids → slice_get linked i ≡ Some fs → is_needed ids fs ≡ true → HasInterfaceAt new types instances i ids fs
  pub none : (i : ℕ) (ids : List ℕ) (fs : List Function) → slice_get needed i ≡ Some ids → slice_get linked i ≡ Some fs → is_needed ids fs ≡ false → slice_get instances i ≡ Some None
  pub homes : (i : ℕ) (ids : List ℕ) (fs : List Function) (id : ℕ) (d : TypeDef) (x : String Global) → slice_get needed i ≡ Some ids → slice_get linked i ≡ Some fs → Has ids id → slice_get types id ≡ Some d → d.name ≡ Some x
      → IsRemembered (index_of new.homes) id

pub record AreNeededImported (old new : Root) (types : List TypeDef) (instances : List (Option ℕ)) (others : List ℕ) (linked : List (List Function)) : Type 0 where
  pub needed : List (List ℕ)
  pub are : AreNeeded (length linked) types (asked others linked) needed
  pub imported : AreImported old new types instances needed linked
