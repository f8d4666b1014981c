-- Interfaces in an arena, as the text has them (WIT, Item: `interface`).
use Rattle.std.specs.Prelude.{◌≡◌, ℕ, ◌+◌, List, map, Some, None, String, length, slice_get, option_map, string_bytes}
use Rattle.std.specs.declared.alloc.Global.{Global}
use Rattle.wit_types.specs.declared.function.Function.{Function}
use Rattle.wit_types.specs.declared.interface.Interface.{Interface}
use Rattle.wit_types.specs.declared.interface.TypeDef.{TypeDef}
use Rattle.wit_types.specs.declared.interface.TypeOwner.TheVariants as belongs
use Rattle.wit_arena.specs.Table.{Entries}
use Rattle.wit_arena.specs.Docs.{said, contents_of}
use Rattle.wit_resolved_scopes.specs.Passed.wit_package_types-Stability.{IsStabilityOf}
use Rattle.wit_resolved_scopes.specs.InArena.{Context, IsScopeIn}
use Rattle.wit_resolved_scopes.specs.Texts.{InterfaceText}

-- types under their names
abbrev pub named_types : List (String Global × ℕ) → Entries
named_types es = map (λ e. (string_bytes e.0, e.1)) es

-- functions, of which each stands under its name
abbrev pub functions_in : List (String Global × Function) → List Function
functions_in es = map (λ e. e.1) es

abbrev pub AreNamed : List (String Global × Function) → Type 0
AreNamed es = map (λ e. string_bytes e.0) es ≡ map (λ e. string_bytes e.1.name) es

-- an interface with these types and functions, of which the same is said as in the text; whose package isn't known yet
pub record IsInterfaceOf (t : InterfaceText) (table : Entries) (fs : List Function) (d : Interface) : Type 0 where
  pub name : option_map string_bytes d.name ≡ t.name
  pub types : named_types d.types.entries ≡ table
  pub functions : functions_in d.functions.entries ≡ fs
  pub named : AreNamed d.functions.entries
  pub docs : contents_of d.docs ≡ said t.docs
  pub stability : IsStabilityOf t.attributes d.stability
  pub loose : d.«package» ≡ None
  pub span : d.span ≡ t.span

-- its types and functions are those of its scope, to which they belong
pub record IsInterfaceIn (c : Context) (a : List TypeDef) (t : InterfaceText) (id : ℕ) (d : Interface) : Type 0 where
  pub table : Entries
  pub functions : List Function
  pub is : IsInterfaceOf t table functions d
  pub scope : IsScopeIn c t.place (belongs.Interface id) a t.members table functions

-- one for each text, with rising ids from that number on
pub record AreInterfacesIn (c : Context) (a : List TypeDef) (first : ℕ) (ts : List InterfaceText) (ds : List Interface) : Type 0 where
  pub so_many : length ds ≡ length ts
  pub each : (n : ℕ) (t : InterfaceText) (d : Interface) → slice_get ts n ≡ Some t → slice_get ds n ≡ Some d → IsInterfaceIn c a t (first + n) d
