-- Interfaces that are brought in one behind the other (WIT, Item: `interface`).
use Rattle.std.specs.Prelude.{◌≡◌, ℕ, ◌+◌, List, [], ◌∷◌, ◌++◌, map, Some, length, slice_get}
use Rattle.wit_types.specs.declared.interface.Interface.{Interface}
use Rattle.wit_types.specs.declared.interface.TypeDef.{TypeDef}
use Rattle.wit_types.specs.declared.interface.TypeOwner.{TypeOwner}
use Rattle.wit_types.specs.declared.interface.TypeOwner.TheVariants as belongs
use Rattle.wit_types.specs.declared.function.Function.{Function}
use Rattle.wit_scopes.specs.Members.{MemberTree}
use Rattle.wit_scopes.specs.Scopes as scope
use Rattle.wit_scopes.specs.Scopes.{InterfaceScope}
use Rattle.wit_rules.specs.Breaks.{Breaks, AnyBreaks}
use Rattle.wit_rules.specs.Labels.{full_name}
use Rattle.wit_resolved_scopes.specs.Passed.wit_orders-Needs.{types_of}
use Rattle.wit_arena.specs.Tree.{Place, in_interface}
use Rattle.wit_arena.specs.Table.{Entries}
use Rattle.wit_arena.specs.Meaning.{Has}
use Rattle.wit_resolved_scopes.specs.Passed.wit_package_types-Known.{KnownTypes, with_interface}
use Rattle.wit_resolved_scopes.specs.Passed.wit_package_types-Stability.{AreGates}
use Rattle.wit_resolved_scopes.specs.Passed.wit_package_types-Standing.{AreOfScope}
use Rattle.wit_resolved_scopes.specs.Each.{AreApartBy}
use Rattle.wit_resolved_scopes.specs.Scope.{functions_among, AreReady, ResolvesScope}
use Rattle.wit_resolved_scopes.specs.Faults.{ScopeBreaks}
use Rattle.wit_resolved_scopes.specs.InArena.{Context, own_owner, GrowsFor, IsBuilt}
use Rattle.wit_resolved_scopes.specs.Texts.{InterfaceText, interface_text}
use Rattle.wit_interfaces.specs.Interfaces.{IsInterfaceOf, AreInterfacesIn}
use Rattle.wit_interfaces.specs.Listed.{NewTypesAreListed}

-- ---- one scope

-- members of a place break a rule
abbrev pub MembersBreak : Context → Place → List MemberTree → Breaks
MembersBreak c o ms = ScopeBreaks c.me c.scopes o (types_of ms) ms

-- members that belong to a place may be brought into the arena
pub record MayBring (c : Context) (o : Place) (whose : TypeOwner) (k : KnownTypes) (a : List TypeDef) (ms : List MemberTree) : Type 0 where
  pub of_scope : AreOfScope c.me c.scopes c.owners o whose (types_of ms)
  pub built : IsBuilt c k a

-- ---- one interface

-- what is asked of it
pub record IsReadyIn (k : KnownTypes) (t : InterfaceText) : Type 0 where
  pub members : AreReady k (types_of t.members) t.members
  pub functions_apart : AreApartBy (λ m. full_name m.kind m.name) (functions_among t.members)
  pub gates : AreGates t.attributes

-- what is made of it
pub record MakesInterface (k : KnownTypes) (a : List TypeDef) (t : InterfaceText) (id : ℕ) (b : List TypeDef) (table : Entries) (d : Interface) : Type 0 where
  pub functions : List Function
  pub resolves : ResolvesScope k (belongs.Interface id) a (types_of t.members) t.members b table functions
  pub is : IsInterfaceOf t table functions d

-- it goes behind the others, and its types are known by its name
pub record AddsInterface (k : KnownTypes) (a : List TypeDef) (old : List Interface) (i : InterfaceScope) (k2 : KnownTypes) (b : List TypeDef) (new : List Interface) : Type 0 where
  pub table : Entries
  pub made : Interface
  pub makes : MakesInterface k a (interface_text i) (length old) b table made
  pub known : k2 ≡ with_interface k i.name.text table
  pub behind : new ≡ old ++ made ∷ []

-- ---- many

abbrev pub InterfacesBreak : Context → List InterfaceScope → Breaks
InterfacesBreak c is = AnyBreaks (λ i. MembersBreak c (in_interface i.name.text) i.members) is

-- interfaces of the package, whose ids begin at that number
pub record MayAdd (c : Context) (k : KnownTypes) (a : List TypeDef) (first : ℕ) (is : List InterfaceScope) : Type 0 where
  pub built : IsBuilt c k a
  pub there : (i : InterfaceScope) → Has is i → Has c.scopes (scope.ItemScope.interface i)
  pub owners : (n : ℕ) (i : InterfaceScope) → slice_get is n ≡ Some i → slice_get c.owners.interfaces (first + n) ≡ Some (own_owner c (in_interface i.name.text))

-- they go behind the others in their order, stand in the arena as the text has them with all types that belong to them, and what stood there stays
pub record AddsInterfaces (c : Context) (a : List TypeDef) (old : List Interface) (is : List InterfaceScope) (k2 : KnownTypes) (b : List TypeDef) (new : List Interface) : Type 0 where
  pub grows : GrowsFor c a b
  pub built : IsBuilt c k2 b
  pub more : List Interface
  pub behind : new ≡ old ++ more
  pub are_in : AreInterfacesIn c b (length old) (map interface_text is) more
  pub listed : NewTypesAreListed c (record { interfaces = map interface_text is; worlds = [] }) new [] a b
