-- Interfaces that stand in worlds under labels, brought in one behind the other (WIT, Item: `world`).
use Rattle.std.specs.Prelude.{◌≡◌, ℕ, ◌+◌, List, [], ◌++◌, Some, length, slice_get}
use Rattle.wit_types.specs.declared.interface.Interface.{Interface}
use Rattle.wit_types.specs.declared.interface.TypeDef.{TypeDef}
use Rattle.wit_scopes.specs.Members.{MemberTree}
use Rattle.wit_rules.specs.Breaks.{Breaks, AnyBreaks}
use Rattle.wit_resolved_scopes.specs.Passed.wit_orders-Needs.{types_of}
use Rattle.wit_arena.specs.Meaning.{Has, Declares}
use Rattle.wit_resolved_scopes.specs.Passed.wit_package_types-Known.{KnownTypes}
use Rattle.wit_resolved_scopes.specs.Each.{Each}
use Rattle.wit_resolved_scopes.specs.InArena.{Context, IsIdOf, GrowsFor, IsBuilt}
use Rattle.wit_resolved_scopes.specs.Texts.{InterfaceText}
use Rattle.wit_interfaces.specs.Interfaces.{AreInterfacesIn}
use Rattle.wit_interfaces.specs.Adding.{MembersBreak}
use Rattle.wit_interfaces.specs.Listed.{NewTypesAreListed}

abbrev pub TextsBreak : Context → List InterfaceText → Breaks
TextsBreak c ts = AnyBreaks (λ t. MembersBreak c t.place t.members) ts

-- interfaces whose scopes are the package's, and whose ids begin at that number
pub record MayAddTexts (c : Context) (k : KnownTypes) (a : List TypeDef) (first : ℕ) (ts : List InterfaceText) : Type 0 where
  pub built : IsBuilt c k a
  pub declared : (t : InterfaceText) → Has ts t → (m : MemberTree) → Has (types_of t.members) m → Declares c.scopes t.place m.name.text m.kind
  pub owners : (n : ℕ) (t : InterfaceText) → slice_get ts n ≡ Some t → IsIdOf c t (first + n)

-- they go behind the others in their order, stand in the arena as the text has them with all types that belong to them, and what stood there stays
pub record AddsTexts (c : Context) (k : KnownTypes) (a : List TypeDef) (old : List Interface) (ts : List InterfaceText) (b : List TypeDef) (new : List Interface) (ids : List ℕ) : Type 0 where
  pub grows : GrowsFor c a b
  pub built : IsBuilt c k b
  pub more : List Interface
  pub behind : new ≡ old ++ more
  pub are_in : AreInterfacesIn c b (length old) ts more
  pub listed : NewTypesAreListed c (record { interfaces = ts; worlds = [] }) new [] a b
  pub ids_are : Each (IsIdOf c) ts ids

-- the same behind ids that are there
pub record AddsMore (c : Context) (k : KnownTypes) (a : List TypeDef) (old : List Interface) (before : List ℕ) (ts : List InterfaceText) (b : List TypeDef) (new : List Interface) (ids : List ℕ) : Type 0 where
  pub theirs : List ℕ
  pub ids_are : ids ≡ before ++ theirs
  pub adds : AddsTexts c k a old ts b new theirs
