-- Where paths of worlds lead (WIT, Name Resolution).
use Rattle.std.specs.Prelude.{◌≡◌, ℕ, ◌+◌, ◌<◌, List, Some, slice_get}
use Rattle.name_places.specs.FirstPlaces.{place_of}
use Rattle.wit_types.specs.declared.«package».AstItem.{AstItem}
use Rattle.wit_types.specs.declared.«package».AstItem.TheVariants as ids
use Rattle.wit_scopes.specs.Paths.{TargetTree, own, foreign}
use Rattle.wit_arena.specs.Tree.{Name, in_interface, in_world, Owner}
use Rattle.wit_arena.specs.Meaning.{Has, package_text}
use Rattle.wit_foreign.specs.Items.{Items}
use Rattle.wit_resolved_scopes.specs.InArena.{Context, own_owner}

-- the interfaces of the package and its worlds so far by name, with the first id of each sort, and what is asked of other packages
pub record PathsTree : Type 0 where
  pub interfaces : List Name
  pub first_interface : ℕ
  pub worlds : List Name
  pub first_world : ℕ
  pub items : Items

-- an interface has that id: of a name of the package the first interface of that name
abbrev pub IsInterfaceId : PathsTree → TargetTree → ℕ → Type 0
IsInterfaceId ps (own n) id = (p : ℕ) × (place_of n.text ps.interfaces ≡ Some p) × (id ≡ ps.first_interface + p)
IsInterfaceId ps (foreign p n) id = Has ps.items (record { package_text = package_text p; place = in_interface n.text }, ids.Interface id)

abbrev pub IsWorldId : PathsTree → TargetTree → ℕ → Type 0
IsWorldId ps (own n) id = (p : ℕ) × (place_of n.text ps.worlds ≡ Some p) × (id ≡ ps.first_world + p)
IsWorldId ps (foreign p n) id = Has ps.items (record { package_text = package_text p; place = in_world n.text }, ids.World id)

-- what a path names is there
abbrev pub IsInterfaceThere : PathsTree → TargetTree → Type 0
IsInterfaceThere ps (own n) = Has ps.interfaces n.text
IsInterfaceThere ps (foreign p n) = (id : ℕ) × Has ps.items (record { package_text = package_text p; place = in_interface n.text }, ids.Interface id)

abbrev pub IsWorldThere : PathsTree → TargetTree → Type 0
IsWorldThere ps (own n) = Has ps.worlds n.text
IsWorldThere ps (foreign p n) = (id : ℕ) × Has ps.items (record { package_text = package_text p; place = in_world n.text }, ids.World id)

-- each item has one id, by its sort
pub record AreSorts (items : Items) : Type 0 where
  pub interfaces : (w : Owner) (x : Name) (i : AstItem) → Has items (w, i) → w.place ≡ in_interface x → (k : ℕ) × (i ≡ ids.Interface k)
  pub worlds : (w : Owner) (x : Name) (i : AstItem) → Has items (w, i) → w.place ≡ in_world x → (k : ℕ) × (i ≡ ids.World k)

-- the ids are those of a package
pub record LeadRight (c : Context) (ps : PathsTree) : Type 0 where
  pub own_interfaces : (x : Name) (p : ℕ) → place_of x ps.interfaces ≡ Some p → slice_get c.owners.interfaces (ps.first_interface + p) ≡ Some (own_owner c (in_interface x))
  pub foreign_interfaces : (w : Owner) (k : ℕ) → Has ps.items (w, ids.Interface k) → slice_get c.owners.interfaces k ≡ Some w
  pub own_worlds : (x : Name) (p : ℕ) → place_of x ps.worlds ≡ Some p → slice_get c.owners.worlds (ps.first_world + p) ≡ Some (own_owner c (in_world x))
  pub foreign_worlds : (w : Owner) (k : ℕ) → Has ps.items (w, ids.World k) → slice_get c.owners.worlds k ≡ Some w

-- an id of an interface of another package is below those of the package, and is one item's
pub record HaveOneOwner (ps : PathsTree) : Type 0 where
  pub below : (w : Owner) (k : ℕ) → Has ps.items (w, ids.Interface k) → k < ps.first_interface
  pub alone : (v w : Owner) (k : ℕ) → Has ps.items (v, ids.Interface k) → Has ps.items (w, ids.Interface k) → v ≡ w
