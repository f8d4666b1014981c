-- Types stand in the interface, or among the imports of the world, to which they belong (WIT, Item: `interface`, Item: `world`).
use Rattle.std.specs.Prelude.{◌≡◌, ℕ, List, [], ◌∷◌, ◌++◌, Some, String, slice_get}
use Rattle.std.specs.declared.alloc.Global.{Global}
use Rattle.wit_words.specs.declared.source_map.Span.{Span}
use Rattle.wit_types.specs.declared.interface.Interface.{Interface}
use Rattle.wit_types.specs.declared.interface.TypeDef.{TypeDef}
use Rattle.wit_types.specs.declared.interface.TypeOwner.{TypeOwner}
use Rattle.wit_types.specs.declared.interface.TypeOwner.TheVariants as belongs
use Rattle.wit_types.specs.declared.world.World.{World}
use Rattle.wit_types.specs.declared.world.WorldItem.TheVariants as item
use Rattle.wit_types.specs.declared.world_key.WorldKey.{WorldKey}
use Rattle.wit_scopes.specs.Members.{MemberTree}
use Rattle.wit_scopes.specs.Scopes.{WorldScope}
use Rattle.wit_arena.specs.Tree.{Place, in_world}
use Rattle.wit_arena.specs.Meaning.{Has}
use Rattle.wit_resolved_scopes.specs.InArena.{Context}
use Rattle.wit_resolved_scopes.specs.Texts.{InterfaceText, own_members}
use Rattle.wit_resolved_scopes.specs.WrittenTypes.{IsFormIn}
use Rattle.wit_resolved_scopes.specs.Listed.{NewTypesBelong}

-- ---- scopes

-- interfaces and worlds as the text has them
pub record ScopeTexts : Type 0 where
  pub interfaces : List InterfaceText
  pub worlds : List WorldScope

abbrev pub one_interface : InterfaceText → ScopeTexts
one_interface t = record { interfaces = t ∷ []; worlds = [] }

abbrev pub texts_behind : ScopeTexts → ScopeTexts → ScopeTexts
texts_behind ts us = record { interfaces = ts.interfaces ++ us.interfaces; worlds = ts.worlds ++ us.worlds }

-- one of them has these members, at this place
pub data IsScopeOf (ts : ScopeTexts) : Place → List MemberTree → Type 0 where
  of_interface : (t : InterfaceText) → Has ts.interfaces t → IsScopeOf ts t.place t.members
  of_world : (w : WorldScope) → Has ts.worlds w → IsScopeOf ts (in_world w.name.text) (own_members w.members)

-- ---- types

-- the type is a form that stands where it is written in one of the scopes
abbrev pub IsFormOf : Context → ScopeTexts → List TypeDef → ℕ → TypeDef → Type 0
IsFormOf c ts a i t = (o : Place) × (ms : List MemberTree) × IsScopeOf ts o ms × IsFormIn c o ms a i t

-- the interface has the type, under whatever name
abbrev pub HasType : Interface → ℕ → Type 0
HasType d i = (x : String Global) × Has d.types.entries (x, i)

-- the world imports it
abbrev pub ImportsType : World → ℕ → Type 0
ImportsType d i = (k : WorldKey) × (s : Span) × Has d.imports.entries (k, item.TypeItem i s)

-- a type that belongs nowhere is a form of one of these scopes; another belongs to one of these interfaces that has it, or to one of these worlds that imports it
abbrev pub IsListedAt : Context → ScopeTexts → List TypeDef → List Interface → List World → ℕ → TypeDef → TypeOwner → Type 0
IsListedAt c ts a interfaces worlds i t belongs.None = IsFormOf c ts a i t
IsListedAt c ts a interfaces worlds i t (belongs.Interface j) = (d : Interface) × (slice_get interfaces j ≡ Some d) × HasType d i
IsListedAt c ts a interfaces worlds i t (belongs.World w) = (d : World) × (slice_get worlds w ≡ Some d) × ImportsType d i

abbrev pub IsListed : Context → ScopeTexts → List TypeDef → List Interface → List World → ℕ → TypeDef → Type 0
IsListed c ts a interfaces worlds i t = IsListedAt c ts a interfaces worlds i t t.owner

-- so does each type that is new in an arena
abbrev pub NewTypesAreListed : Context → ScopeTexts → List Interface → List World → List TypeDef → List TypeDef → Type 0
NewTypesAreListed c ts interfaces worlds a b = NewTypesBelong (IsListed c ts b interfaces worlds) a b
