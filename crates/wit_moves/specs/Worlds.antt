-- What worlds import and export, where it stands in another graph (WIT, Item: `world`, Feature Gates).
use Rattle.std.specs.Prelude.{◌≡◌, ℕ, Bool, true, false, List, Some, map, slice_get}
use Rattle.wit_features.specs.Passed.wit_words-declared-source_map-Span.{Span}
use Rattle.wit_features.specs.Passed.wit_types-declared-function-Function.{Function}
use Rattle.wit_features.specs.Passed.wit_types-declared-stability-Stability.{Stability}
use Rattle.wit_features.specs.Passed.wit_types-declared-world-WorldItem.{WorldItem}
use Rattle.wit_features.specs.Passed.wit_types-declared-world-WorldItem-TheVariants as item
use Rattle.wit_features.specs.Passed.wit_types-declared-world_key-WorldKey.{WorldKey}
use Rattle.wit_features.specs.Passed.wit_types-declared-world_key-WorldKey-TheVariants as key
use Rattle.wit_features.specs.Passed.wit_types-World.{span_of}
use Rattle.wit_moves.specs.declared.plan.MoveFault.{MoveFault}
use Rattle.wit_moves.specs.declared.plan.MoveFault.TheVariants.{ItemNotFound, OutOfMemory}
use Rattle.wit_features.specs.Features.{FeatureSet, stays}
use Rattle.wit_moves.specs.Moved.{Places, is_placed, to, is_signature_placed, IsMovedFunction}
use Rattle.wit_moves.specs.Interfaces.{AreKept, function_stays}

-- an interface stays where its gates let it, a type where it does
abbrev pub item_stays : FeatureSet → Places → WorldItem → Bool
item_stays features places (item.Interface id stability span) = stays features stability
item_stays features places (item.Function f) = function_stays features places f
item_stays features places (item.TypeItem id span) = is_placed places id

-- what an item is made of stands somewhere
abbrev pub is_item_placed : Places → Places → WorldItem → Bool
is_item_placed places interfaces (item.Interface id stability span) = is_placed interfaces id
is_item_placed places interfaces (item.Function f) = is_signature_placed places f.params.items f.result
is_item_placed places interfaces (item.TypeItem id span) = is_placed places id

-- the same item of the interface and the types where they are moved
pub data IsMovedItem (types interfaces : ℕ → ℕ) : WorldItem → WorldItem → Type 0 where
  moved_interface : (id : ℕ) (stability : Stability) (span : Span) → IsMovedItem types interfaces (item.Interface id stability span) (item.Interface (interfaces id) stability span)
  moved_function : (f g : Function) → IsMovedFunction types f g → IsMovedItem types interfaces (item.Function f) (item.Function g)
  moved_type : (id : ℕ) (span : Span) → IsMovedItem types interfaces (item.TypeItem id span) (item.TypeItem (types id) span)

abbrev pub moved_key : (ℕ → ℕ) → WorldKey → WorldKey
moved_key interfaces (key.Name name) = key.Name name
moved_key interfaces (key.Interface id) = key.Interface (interfaces id)

abbrev pub moved_entry : (ℕ → ℕ) → WorldKey × WorldItem → WorldKey × WorldItem
moved_entry interfaces e = (moved_key interfaces e.0, e.1)

-- the items that stay, in their order, each moved
abbrev pub AreMovedItems : FeatureSet → Places → Places → List (WorldKey × WorldItem) → List (WorldKey × WorldItem) → Type 0
AreMovedItems features places interfaces = AreKept (item_stays features places) (IsMovedItem (to places) (to interfaces))

-- and by their keys where their interfaces stand
abbrev pub IsMovedSide : FeatureSet → Places → Places → List (WorldKey × WorldItem) → List (WorldKey × WorldItem) → Type 0
IsMovedSide features places interfaces old new = (kept : List (WorldKey × WorldItem)) × AreMovedItems features places interfaces old kept × (new ≡ map (moved_entry (to interfaces)) kept)

-- an item that stays is made of what doesn't: a break at the item
pub record SideBreaks (features : FeatureSet) (places interfaces : Places) (es : List (WorldKey × WorldItem)) (at : Span) : Type 0 where
  pub place : ℕ
  pub one : WorldKey × WorldItem
  pub there : slice_get es place ≡ Some one
  pub stays : item_stays features places one.1 ≡ true
  pub unplaced : is_item_placed places interfaces one.1 ≡ false
  pub stands : span_of one.1 ≡ at

abbrev pub IsSideCause : FeatureSet → Places → Places → List (WorldKey × WorldItem) → MoveFault → Type 0
IsSideCause features places interfaces es OutOfMemory = ⊥
IsSideCause features places interfaces es (ItemNotFound at) = SideBreaks features places interfaces es at
