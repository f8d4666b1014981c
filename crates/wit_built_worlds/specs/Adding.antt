-- Worlds that are brought in one behind the other (WIT, Item: `world`).
use Rattle.std.specs.Prelude.{◌≡◌, ℕ, ◌+◌, ◌<◌, ◌^◌, List, [], ◌∷◌, ◌++◌, flat_map, Some, length, slice_get}
use Rattle.name_places.specs.FirstPlaces.{place_of}
use Rattle.wit_words.specs.declared.source_map.Span.{Span}
use Rattle.wit_types.specs.declared.interface.Interface.{Interface}
use Rattle.wit_types.specs.declared.interface.TypeDef.{TypeDef}
use Rattle.wit_types.specs.declared.world.World.{World}
use Rattle.wit_types.specs.declared.«package».AstItem.TheVariants as ids
use Rattle.wit_scopes.specs.declared.worlds.Side.{Side}
use Rattle.wit_scopes.specs.declared.worlds.Side.TheVariants.{Import}
use Rattle.wit_scopes.specs.Members.{MemberTree}
use Rattle.wit_scopes.specs.Scopes as scope
use Rattle.wit_scopes.specs.Scopes.{WorldMemberTree, InterfaceScope, WorldScope}
use Rattle.wit_rules.specs.declared.fault.PackageRule.{PackageRule}
use Rattle.wit_rules.specs.Breaks.{Breaks, AnyBreaks}
use Rattle.wit_interfaces.specs.Passed.wit_orders-Needs.{types_of}
use Rattle.wit_interfaces.specs.Passed.wit_arena-Tree.{Name, in_interface, in_world, Owner}
use Rattle.wit_interfaces.specs.Passed.wit_arena-Meaning.{Has}
use Rattle.wit_interfaces.specs.Passed.wit_arena-Unfold.{Owners}
use Rattle.wit_interfaces.specs.Passed.wit_package_types-Known.{KnownTypes}
use Rattle.wit_interfaces.specs.Passed.wit_package_types-Stability.{AreGates}
use Rattle.wit_readiness.specs.Passed.wit_foreign-Items.{Items, interfaces_in, worlds_in}
use Rattle.wit_interfaces.specs.Passed.wit_resolved_scopes-Each.{AreApartBy}
use Rattle.wit_interfaces.specs.Passed.wit_resolved_scopes-Scope.{AreReady}
use Rattle.wit_interfaces.specs.Passed.wit_resolved_scopes-InArena.{Context, own_owner, GrowsFor, IsBuilt, IsIdOf}
use Rattle.wit_interfaces.specs.Passed.wit_resolved_scopes-Texts.{InterfaceText, labelled_texts, own_members, side_members, plain, key_text}
use Rattle.wit_interfaces.specs.Passed.wit_resolved_scopes-Fit.{Foreign, KnowsInterfaces, AreWorldsReady}
use Rattle.wit_interfaces.specs.Interfaces.{AreInterfacesIn}
use Rattle.wit_interfaces.specs.Listed.{NewTypesAreListed}
use Rattle.wit_interfaces.specs.Adding.{MembersBreak, IsReadyIn}
use Rattle.wit_interfaces.specs.Labelled.{TextsBreak}
use Rattle.wit_worlds.specs.Paths.{PathsTree, AreSorts, LeadRight, HaveOneOwner}
use Rattle.wit_worlds.specs.Listing.{IsThere}
use Rattle.wit_worlds.specs.Worlds.{IsWorldIn, AreWorldsIn}

-- ---- what worlds break

-- a world's own members do, or those of an interface that stands in it
pub data WorldBreaks (c : Context) (w : WorldScope) (rule : PackageRule) (at : Span) : Type 0 where
  by_own : MembersBreak c (in_world w.name.text) (own_members w.members) rule at → WorldBreaks c w rule at
  by_labelled : TextsBreak c (labelled_texts w) rule at → WorldBreaks c w rule at

abbrev pub WorldsBreak : Context → List WorldScope → Breaks
WorldsBreak c ws = AnyBreaks (WorldBreaks c) ws

-- ---- one world

-- where its paths lead: interfaces and worlds of the package stand behind those of others
abbrev pub paths_of : KnownTypes → Items → List Name → PathsTree
paths_of k items worlds = record { interfaces = k.names; first_interface = interfaces_in items; worlds = worlds; first_world = worlds_in items; items = items }

-- ids are told from one another, and fit
pub record AreNumbered (ps : PathsTree) : Type 0 where
  pub sorts : AreSorts ps.items
  pub one_owner : HaveOneOwner ps
  pub interfaces_fit : ps.first_interface + length ps.interfaces < 2 ^ 64
  pub worlds_fit : ps.first_world + length ps.worlds < 2 ^ 64

-- what is asked of it: its scopes may be brought in, its paths lead somewhere, and no two imports and no two exports have one key
pub record IsWorldReadyIn (k : KnownTypes) (ps : PathsTree) (w : WorldScope) : Type 0 where
  pub own : AreReady k (types_of (own_members w.members)) (own_members w.members)
  pub labelled : (t : InterfaceText) → Has (labelled_texts w) t → IsReadyIn k t
  pub there : (m : WorldMemberTree) → Has w.members m → IsThere ps m
  pub gates : AreGates w.attributes
  pub keys_apart : (side : Side) → AreApartBy key_text (side_members side w.members)
  pub types_apart : (m : MemberTree) (x : WorldMemberTree) → Has (types_of (own_members w.members)) m → Has (side_members Import w.members) x → key_text x ≡ plain m.name.text → ⊥

-- a world of the package, to whose id it belongs, and so do those that stand in it
pub record MayAddWorld (c : Context) (k : KnownTypes) (a : List TypeDef) (interfaces : List Interface) (worlds : List World) (ps : PathsTree) (w : WorldScope) : Type 0 where
  pub built : IsBuilt c k a
  pub there : Has c.scopes (scope.world w)
  pub owner : slice_get c.owners.worlds (length worlds) ≡ Some (own_owner c (in_world w.name.text))
  pub labelled : (n : ℕ) (t : InterfaceText) → slice_get (labelled_texts w) n ≡ Some t → IsIdOf c t (length interfaces + n)
  pub leads : LeadRight c ps

-- it goes behind the others, and the interfaces that stand in it behind theirs; all stand in the arena as the text has them with all types that belong to them, and what stood there stays
pub record AddsWorld (c : Context) (k : KnownTypes) (a : List TypeDef) (interfaces : List Interface) (worlds : List World) (w : WorldScope) (b : List TypeDef) (interfaces2 : List Interface) (worlds2 : List World) : Type 0 where
  pub grows : GrowsFor c a b
  pub built : IsBuilt c k b
  pub labelled : List Interface
  pub interfaces_behind : interfaces2 ≡ interfaces ++ labelled
  pub labelled_are : AreInterfacesIn c b (length interfaces) (labelled_texts w) labelled
  pub made : World
  pub behind : worlds2 ≡ worlds ++ made ∷ []
  pub is : IsWorldIn c b w (length worlds) made
  pub listed : NewTypesAreListed c (record { interfaces = labelled_texts w; worlds = w ∷ [] }) interfaces2 worlds2 a b

-- ---- many

-- interfaces and worlds of other packages are those that are asked for
pub record AreOwnersIn (items : Items) (owners : Owners) : Type 0 where
  pub interfaces : (w : Owner) → Has owners.interfaces w → (k : ℕ) × Has items (w, ids.Interface k)
  pub worlds : (w : Owner) → Has owners.worlds w → (k : ℕ) × Has items (w, ids.World k)

-- what is asked of worlds, where these interfaces are known
pub record AreReadyBehind (k : KnownTypes) (items : Items) (ws : List WorldScope) : Type 0 where
  pub interfaces : List InterfaceScope
  pub others : Foreign
  pub ready : AreWorldsReady interfaces others ws
  pub knows : KnowsInterfaces k interfaces
  pub types : k.foreign ≡ others.types
  pub owners : AreOwnersIn items others.owners

-- worlds of the package, whose ids begin behind these worlds, and those of the interfaces that stand in them behind these interfaces
pub record MayAddWorlds (c : Context) (k : KnownTypes) (a : List TypeDef) (interfaces : List Interface) (items : Items) (worlds : List World) (ws : List WorldScope) : Type 0 where
  pub built : IsBuilt c k a
  pub there : (w : WorldScope) → Has ws w → Has c.scopes (scope.world w)
  pub owners : (n : ℕ) (w : WorldScope) → slice_get ws n ≡ Some w → slice_get c.owners.worlds (length worlds + n) ≡ Some (own_owner c (in_world w.name.text))
  pub labelled : (n : ℕ) (t : InterfaceText) → slice_get (flat_map labelled_texts ws) n ≡ Some t → IsIdOf c t (length interfaces + n)
  pub own_interfaces : (x : Name) (p : ℕ) → place_of x k.names ≡ Some p → slice_get c.owners.interfaces (interfaces_in items + p) ≡ Some (own_owner c (in_interface x))
  pub foreign_interfaces : (w : Owner) (j : ℕ) → Has items (w, ids.Interface j) → slice_get c.owners.interfaces j ≡ Some w
  pub foreign_worlds : (w : Owner) (j : ℕ) → Has items (w, ids.World j) → slice_get c.owners.worlds j ≡ Some w

-- they go behind the others in their order, stand in the arena as the text has them with all types that belong to them, and what stood there stays
pub record AddsWorlds (c : Context) (k : KnownTypes) (a : List TypeDef) (interfaces : List Interface) (worlds : List World) (ws : List WorldScope) (b : List TypeDef) (interfaces2 : List Interface) (worlds2 : List World) : Type 0 where
  pub grows : GrowsFor c a b
  pub built : IsBuilt c k b
  pub labelled : List Interface
  pub interfaces_behind : interfaces2 ≡ interfaces ++ labelled
  pub labelled_are : AreInterfacesIn c b (length interfaces) (flat_map labelled_texts ws) labelled
  pub more : List World
  pub behind : worlds2 ≡ worlds ++ more
  pub are_in : AreWorldsIn c b (length worlds) ws more
  pub listed : NewTypesAreListed c (record { interfaces = flat_map labelled_texts ws; worlds = ws }) interfaces2 worlds2 a b
