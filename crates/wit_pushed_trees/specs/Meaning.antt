-- Interfaces that mean what their texts do (WIT, Item: `interface`, Use, Types).
use Rattle.std.specs.Prelude.{◌≡◌, ℕ, Bool, true, false, List, Some, String, if◌then◌else◌, map, string_bytes, slice_get}
use Rattle.std.specs.declared.alloc.Global.{Global}
use Rattle.wit_types.specs.declared.function.Param.{Param}
use Rattle.wit_types.specs.declared.function.Function.{Function}
use Rattle.wit_types.specs.declared.function.FunctionKind.{FunctionKind}
use Rattle.wit_types.specs.declared.function.FunctionKind.TheVariants as of
use Rattle.wit_types.specs.declared.interface.Interface.{Interface}
use Rattle.wit_types.specs.declared.interface.TypeDef.{TypeDef}
use Rattle.wit_items.specs.ItemTree.{ParamTree}
use Rattle.wit_well_formed.specs.Passed.wit_functions-Signature.{all_params}
use Rattle.wit_scopes.specs.Members.{MemberTree, MemberKind, used, defined, function, method, static, constructor}
use Rattle.wit_rules.specs.Labels.{full_name}
use Rattle.wit_arena.specs.Tree.{Name, Place, in_interface, Owner, Tree}
use Rattle.wit_arena.specs.Unfold.{Owners}
use Rattle.wit_arena.specs.Standing.{Stands}
use Rattle.wit_arena.specs.Meaning.{Has}
use Rattle.wit_well_formed.specs.Passed.wit_resolved_scopes-InArena.{Context, own_owner}
use Rattle.wit_well_formed.specs.Passed.wit_resolved_scopes-Meaning.{StandsForFunction}
use Rattle.wit_well_formed.specs.Passed.wit_resolved_scopes-Scope.{functions_among}
use Rattle.wit_well_formed.specs.Passed.wit_resolved_scopes-Texts.{InterfaceText}

-- what sort of function something is, and whether it is asynchronous
pub data FunctionSort : Type 0 where
  no_function : FunctionSort
  is_freestanding : Bool → FunctionSort
  is_method : Bool → FunctionSort
  is_static : Bool → FunctionSort
  is_constructor : FunctionSort

abbrev pub sort_of : FunctionKind → FunctionSort
sort_of of.Freestanding = is_freestanding false
sort_of of.AsyncFreestanding = is_freestanding true
sort_of (of.Method r) = is_method false
sort_of (of.AsyncMethod r) = is_method true
sort_of (of.Static r) = is_static false
sort_of (of.AsyncStatic r) = is_static true
sort_of (of.Constructor r) = is_constructor

abbrev pub written_sort : MemberKind → FunctionSort
written_sort (used t n) = no_function
written_sort (defined k) = no_function
written_sort (function f) = is_freestanding f.is_async
written_sort (method r f) = is_method f.is_async
written_sort (static r f) = is_static f.is_async
written_sort (constructor r ps t) = is_constructor

-- the kind of function that a member is, of the resource for which that name stands
abbrev pub IsKindMeant : (Name → ℕ → Type 0) → MemberKind → FunctionKind → Type 0
IsKindMeant stands (used t n) k = ⊥
IsKindMeant stands (defined t) k = ⊥
IsKindMeant stands (function f) k = k ≡ (if f.is_async then of.AsyncFreestanding else of.Freestanding)
IsKindMeant stands (method r f) k = (i : ℕ) × stands r.text i × (k ≡ (if f.is_async then of.AsyncMethod i else of.Method i))
IsKindMeant stands (static r f) k = (i : ℕ) × stands r.text i × (k ≡ (if f.is_async then of.AsyncStatic i else of.Static i))
IsKindMeant stands (constructor r ps t) k = (i : ℕ) × stands r.text i × (k ≡ of.Constructor i)

-- the names of parameters, and those that are written
abbrev pub param_names : Function → List Name
param_names f = map (λ (p : Param). string_bytes p.name) f.params.items

abbrev pub written_names : MemberTree → List Name
written_names m = map (λ (p : ParamTree). p.name.text) (all_params m)

-- a function is one of these members of a place and of its kind, and takes, under those names, and gives what is written there
pub record IsFunctionMeant (given : Owner → Name → Tree) (c : Context) (owners : Owners) (types : List TypeDef) (o : Place) (ms : List MemberTree) (f : Function) : Type 0 where
  pub member : MemberTree
  pub written : Has (functions_among ms) member
  pub named : string_bytes f.name ≡ full_name member.kind member.name
  pub params_named : param_names f ≡ written_names member
  pub kind : IsKindMeant (λ (x : Name) (i : ℕ). Stands c.me c.scopes given owners types o x i) member.kind f.kind
  pub means : StandsForFunction c.me c.scopes given owners o types member f

-- an interface with a name is that of the text of that name; each of its names stands for what it means at the place of the text, and each function for
-- what is written of it
pub record IsInterfaceMeant (given : Owner → Name → Tree) (c : Context) (owners : Owners) (types : List TypeDef) (t : InterfaceText) (d : Interface) : Type 0 where
  pub placed : (x : String Global) → d.name ≡ Some x → t.place ≡ in_interface (string_bytes x)
  pub names : (x : String Global) (i : ℕ) → Has d.types.entries (x, i) → Stands c.me c.scopes given owners types t.place (string_bytes x) i
  pub functions : (x : String Global) (f : Function) → Has d.functions.entries (x, f) → IsFunctionMeant given c owners types t.place t.members f

-- the one of that id is that of one of these texts, whose it is
abbrev pub IsOfText : (Owner → Name → Tree) → Context → Owners → List TypeDef → List InterfaceText → ℕ → Interface → Type 0
IsOfText given c owners types ts k d = (t : InterfaceText) × Has ts t × (slice_get owners.interfaces k ≡ Some (own_owner c t.place)) × IsInterfaceMeant given c owners types t d
