-- What a world lists, and of which interfaces types are used there (WIT, Item: `world`).
use Rattle.std.specs.Prelude.{◌≡◌, ℕ, ◌<◌, ◌↔◌, ◌⊎◌, List, [], ◌∷◌, ◌++◌, Some, length, map, flat_map, slice_get}
use Rattle.wit_types.specs.declared.interface.TypeDef.{TypeDef}
use Rattle.wit_types.specs.declared.world.World.{World}
use Rattle.wit_types.specs.declared.world.WorldItem.{WorldItem}
use Rattle.wit_types.specs.declared.world.WorldItem.TheVariants as item
use Rattle.wit_types.specs.declared.world_key.WorldKey.{WorldKey}
use Rattle.wit_types.specs.declared.world_key.WorldKey.TheVariants as key
use Rattle.wit_types.specs.Passed.wit_order-Order.{Has}
use Rattle.wit_types.specs.Passed.wit_order-Places.{Rows}
use Rattle.wit_reach.specs.Paths.{AreBackward}
use Rattle.wit_reach.specs.Reach.{Lists, Uses, AreThere}
use Rattle.wit_reach.specs.Deps.{AreUsed, interface_of}

-- types that are imported or exported
abbrev pub item_type : WorldItem → List ℕ
item_type (item.Interface id stability span) = []
item_type (item.Function f) = []
item_type (item.TypeItem id span) = id ∷ []

abbrev pub type_items : List (WorldKey × WorldItem) → List ℕ
type_items es = flat_map item_type (map (λ (e : WorldKey × WorldItem). e.1) es)

-- interfaces, by whatever keys
abbrev pub item_interface : WorldItem → List ℕ
item_interface (item.Interface id stability span) = id ∷ []
item_interface (item.Function f) = []
item_interface (item.TypeItem id span) = []

abbrev pub interfaces_of : List (WorldKey × WorldItem) → List ℕ
interfaces_of es = flat_map item_interface (map (λ (e : WorldKey × WorldItem). e.1) es)

-- those under a label
abbrev pub labelled : WorldKey × WorldItem → List ℕ
labelled (key.Name name, i) = item_interface i
labelled (key.Interface k, i) = []

abbrev pub labelled_in : List (WorldKey × WorldItem) → List ℕ
labelled_in es = flat_map labelled es

-- and those under their own names
abbrev pub listed : WorldKey × WorldItem → List ℕ
listed (key.Name name, i) = []
listed (key.Interface k, i) = item_interface i

abbrev pub listed_in : List (WorldKey × WorldItem) → List ℕ
listed_in es = flat_map listed es

-- a type of the world is another's under another name, or an interface uses it that is imported under a label
abbrev pub item_types : World → List ℕ
item_types world = type_items world.imports.entries ++ type_items world.exports.entries

abbrev pub IsLabelledUse : (ℕ → ℕ → Type 0) → World → ℕ → Type 0
IsLabelledUse uses world j = (i : ℕ) × Has (labelled_in world.imports.entries) i × uses i j

abbrev pub IsUsedIn : List TypeDef → (ℕ → ℕ → Type 0) → World → ℕ → Type 0
IsUsedIn ds uses world j = AreUsed ds (item_types world) j ⊎ IsLabelledUse uses world j

-- a world lists what it imports and exports; its own types use types of others, and so do interfaces that it imports under a label
pub record AreListsOf (ds : List TypeDef) (uses : ℕ → ℕ → Type 0) (world : World) (lists : Lists) : Type 0 where
  pub imports : lists.imports ≡ listed_in world.imports.entries
  pub used : (j : ℕ) → Has lists.used j ↔ IsUsedIn ds uses world j
  pub exports : lists.exports ≡ interfaces_of world.exports.entries

-- what a world names: interfaces that it imports or exports, by whatever keys, and those of which its types are other names
abbrev pub item_interfaces : World → List ℕ
item_interfaces world = interfaces_of world.imports.entries ++ interfaces_of world.exports.entries

abbrev pub IsNamedBy : List TypeDef → World → ℕ → Type 0
IsNamedBy ds world j = Has (item_interfaces world) j ⊎ AreUsed ds (item_types world) j

-- ---- what a world lists is there

-- the interfaces to which types belong
abbrev pub AreOwnersThere : ℕ → List TypeDef → Type 0
AreOwnersThere n ds = (i j : ℕ) (d : TypeDef) → slice_get ds i ≡ Some d → interface_of d.owner ≡ Some j → j < n

-- and those of a world
pub record AreInterfacesThere (n : ℕ) (world : World) : Type 0 where
  pub imports : (i : ℕ) → Has (interfaces_of world.imports.entries) i → i < n
  pub exports : (i : ℕ) → Has (interfaces_of world.exports.entries) i → i < n

-- where they are there, so is all that the world lists
abbrev pub ListsAreThere : Type 0
ListsAreThere = (ds : List TypeDef) (g : Rows) (world : World) (lists : Lists) → AreListsOf ds (Uses g) world lists
    → AreOwnersThere (length g) ds → AreInterfacesThere (length g) world → AreBackward (Uses g)
    → AreThere g lists
