-- A package whose interfaces and worlds are brought in (WIT, Packages).
use Rattle.std.specs.Prelude.{◌≡◌, ℕ, ◌+◌, List, ◌++◌, map, flat_map, Some, length, slice_get}
use Rattle.wit_words.specs.declared.source_map.Span.{Span}
use Rattle.wit_types.specs.declared.interface.Interface.{Interface}
use Rattle.wit_types.specs.declared.interface.TypeDef.{TypeDef}
use Rattle.wit_types.specs.declared.world.World.{World}
use Rattle.wit_types.specs.declared.«package».AstItem.TheVariants as ids
use Rattle.wit_scopes.specs.Scopes as scope
use Rattle.wit_scopes.specs.Scopes.{InterfaceScope, WorldScope}
use Rattle.wit_rules.specs.declared.fault.PackageRule.{PackageRule}
use Rattle.wit_arena.specs.Tree.{in_world, Owner}
use Rattle.wit_arena.specs.Meaning.{Has}
use Rattle.wit_placeholders.specs.Passed.wit_package_types-Known.{KnownTypes}
use Rattle.wit_placeholders.specs.Passed.wit_foreign-Items.{Items}
use Rattle.wit_built_worlds.specs.Passed.wit_resolved_scopes-InArena.{Context, own_owner, GrowsFor, IsBuilt, IsIdOf}
use Rattle.wit_built_worlds.specs.Passed.wit_resolved_scopes-Texts.{InterfaceText, interface_text, labelled_texts}
use Rattle.wit_built_worlds.specs.Passed.wit_resolved_scopes-Fit.{Foreign, AreInterfacesReady, AreWorldsReady}
use Rattle.wit_built_worlds.specs.Passed.wit_interfaces-Interfaces.{AreInterfacesIn}
use Rattle.wit_built_worlds.specs.Passed.wit_interfaces-Listed.{NewTypesAreListed}
use Rattle.wit_built_worlds.specs.Passed.wit_interfaces-Adding.{InterfacesBreak}
use Rattle.wit_built_worlds.specs.Worlds.{AreWorldsIn}
use Rattle.wit_built_worlds.specs.Adding.{WorldsBreak, AreOwnersIn}

-- the interfaces of these and those that stand in these worlds, as the text has them
abbrev pub texts_of : List InterfaceScope → List WorldScope → List InterfaceText
texts_of is ws = map interface_text is ++ flat_map labelled_texts ws

-- interfaces and worlds of which each is ready behind those in front of it, where that is there of other packages
pub record AreReadyTogether (k : KnownTypes) (items : Items) (is : List InterfaceScope) (ws : List WorldScope) : Type 0 where
  pub others : Foreign
  pub interfaces : AreInterfacesReady others is
  pub worlds : AreWorldsReady is others ws
  pub types : k.foreign ≡ others.types
  pub owners : AreOwnersIn items others.owners

-- interfaces and worlds of a package, whose ids begin behind these
pub record MayBuild (c : Context) (k : KnownTypes) (a : List TypeDef) (interfaces : List Interface) (items : Items) (worlds : List World) (is : List InterfaceScope) (ws : List WorldScope) : Type 0 where
  pub built : IsBuilt c k a
  pub interfaces_there : (i : InterfaceScope) → Has is i → Has c.scopes (scope.ItemScope.interface i)
  pub worlds_there : (w : WorldScope) → Has ws w → Has c.scopes (scope.world w)
  pub interface_owners : (n : ℕ) (t : InterfaceText) → slice_get (texts_of is ws) n ≡ Some t → IsIdOf c t (length interfaces + n)
  pub world_owners : (n : ℕ) (w : WorldScope) → slice_get ws n ≡ Some w → slice_get c.owners.worlds (length worlds + n) ≡ Some (own_owner c (in_world w.name.text))
  pub foreign_interfaces : (w : Owner) (j : ℕ) → Has items (w, ids.Interface j) → slice_get c.owners.interfaces j ≡ Some w
  pub foreign_worlds : (w : Owner) (j : ℕ) → Has items (w, ids.World j) → slice_get c.owners.worlds j ≡ Some w

-- they go behind these in their order, stand in the arena as the text has them with all types that belong to them, and what stood there stays
pub record Builds (c : Context) (a : List TypeDef) (interfaces : List Interface) (worlds : List World) (is : List InterfaceScope) (ws : List WorldScope) (b : List TypeDef) (interfaces2 : List Interface) (worlds2 : List World) : Type 0 where
  pub grows : GrowsFor c a b
  pub more : List Interface
  pub behind : interfaces2 ≡ interfaces ++ more
  pub are_in : AreInterfacesIn c b (length interfaces) (texts_of is ws) more
  pub more_worlds : List World
  pub worlds_behind : worlds2 ≡ worlds ++ more_worlds
  pub worlds_are_in : AreWorldsIn c b (length worlds) ws more_worlds
  pub listed : NewTypesAreListed c (record { interfaces = texts_of is ws; worlds = ws }) interfaces2 worlds2 a b

-- one of the interfaces breaks a rule, or one of the worlds
pub data ItemsBreak (c : Context) (is : List InterfaceScope) (ws : List WorldScope) (rule : PackageRule) (at : Span) : Type 0 where
  by_interfaces : InterfacesBreak c is rule at → ItemsBreak c is ws rule at
  by_worlds : WorldsBreak c ws rule at → ItemsBreak c is ws rule at
