-- Texts that are found, interface by interface.
use Rattle.std.specs.Prelude.{◌≡◌, ◌⊎◌, ◌↔◌, ℕ, ◌<◌, Bool, true, false, List, [], Option, Some, None, String, length, get_or, map, option_map, set, slice_get, string_bytes}
use Rattle.std.specs.declared.alloc.Global.{Global}
use Rattle.wasm_types.specs.Entries.{ImportValue}
use Rattle.wit_order.specs.Order.{Has}
use Rattle.wit_types.specs.declared.world.WorldItem.TheVariants as item
use Rattle.wit_types.specs.declared.world_key.WorldKey.{WorldKey}
use Rattle.wit_core_items.specs.Places.{Entry}
use Rattle.wit_core_items.specs.declared.import_places.ImportPlace.{ImportPlace}
use Rattle.wit_core_items.specs.declared.import_places.ImportPlace.TheVariants.{OwnFunction, InterfaceFunction, OwnDrop, InterfaceDrop, ExportedIntrinsic}
use Rattle.core_links.specs.Names.{Names}
use Rattle.linked_worlds.specs.Passed.type_sinks-Root.{InterfaceNames}
use Rattle.linked_worlds.specs.Passed.right_components-Outside.{IsTextOf, IsImportedUnder}
use Rattle.interface_names.specs.Names.{IsNeededUnder}

-- a text at each place, or none
abbrev pub Texts : Type 0
Texts = List (Option (List ℕ))

abbrev pub texts_of : List (Option (String Global)) → Texts
texts_of = map (option_map string_bytes)

abbrev pub text_at : Texts → ℕ → Option (List ℕ)
text_at texts place = get_or texts place None

-- none at so many places
pub record AreNone (texts : Texts) (so_many : ℕ) : Type 0 where
  pub length_is : length texts ≡ so_many
  pub none : (place : ℕ) → text_at texts place ≡ None

-- a text is put where none stands, and stays where it stands already; or another one stands there, which stays, and then it isn't alone
pub data Puts (old : Texts) (place : ℕ) (text : List ℕ) (alone : Bool) (new : Texts) : Type 0 where
  first : place < length old → text_at old place ≡ None → alone ≡ true → new ≡ set old place (Some text) → Puts old place text alone new
  again : text_at old place ≡ Some text → alone ≡ true → new ≡ old → Puts old place text alone new
  another : (other : List ℕ) → text_at old place ≡ Some other → (other ≡ text → ⊥) → alone ≡ false → new ≡ old → Puts old place text alone new

-- so is that of a key, if it has one
pub data PutsKey (n : Names) (old : Texts) (key : WorldKey) (place : ℕ) (alone : Bool) (new : Texts) : Type 0 where
  its_text : (text : List ℕ) → IsTextOf n key text → Puts old place text alone new → PutsKey n old key place alone new
  no_text : ((text : List ℕ) → IsTextOf n key text → ⊥) → alone ≡ true → new ≡ old → PutsKey n old key place alone new

-- and that of the key of an import, if this is of an interface
abbrev pub PutsEntry : Names → Texts → Entry → Bool → Texts → Type 0
PutsEntry n old (key, item.Interface id stability span) alone new = PutsKey n old key id alone new
PutsEntry n old (key, item.Function f) alone new = (alone ≡ true) × (new ≡ old)
PutsEntry n old (key, item.TypeItem id span) alone new = (alone ≡ true) × (new ≡ old)

-- and that of the key of the interface of which a function stands at a place
abbrev pub PutsPlace : Names → Texts → ImportPlace → Bool → Texts → Type 0
PutsPlace n old (InterfaceFunction entry j) alone new = (e : Entry) → slice_get n.world.imports.entries entry ≡ Some e → PutsEntry n old e alone new
PutsPlace n old (OwnFunction entry) alone new = (alone ≡ true) × (new ≡ old)
PutsPlace n old (OwnDrop r) alone new = (alone ≡ true) × (new ≡ old)
PutsPlace n old (InterfaceDrop entry r) alone new = (alone ≡ true) × (new ≡ old)
PutsPlace n old (ExportedIntrinsic entry r what) alone new = (alone ≡ true) × (new ≡ old)

-- at the ids of interfaces stand the texts of the keys by which these core imports name functions of them, and nothing else
pub record AreFound (n : Names) (is : List ImportValue) (texts : Texts) : Type 0 where
  pub so_many : length texts ≡ length n.known.interfaces
  pub are : (id : ℕ) (text : List ℕ) → IsNeededUnder n is id text ↔ (text_at texts id ≡ Some text)

-- of an entry that imports an interface, a text stands at its id, if its key has one
abbrev pub IsFilledAt : Names → Texts → Entry → Type 0
IsFilledAt n texts (key, item.Interface id stability span) = (text : List ℕ) → IsTextOf n key text → (found : List ℕ) × (text_at texts id ≡ Some found)
IsFilledAt n texts (key, item.Function f) = Unit {0}
IsFilledAt n texts (key, item.TypeItem id span) = Unit {0}

-- what stood there stands there still, and of the interfaces that these entries import each has the text of a key
pub record AreFilled (n : Names) (es : List Entry) (old new : Texts) : Type 0 where
  pub so_many : length new ≡ length old
  pub kept : (id : ℕ) (text : List ℕ) → text_at old id ≡ Some text → text_at new id ≡ Some text
  pub more : (id : ℕ) (text : List ℕ) → text_at new id ≡ Some text → (text_at old id ≡ Some text) ⊎ IsImportedUnder n id text
  pub all : (e : Entry) → Has es e → IsFilledAt n new e

-- the text, or an empty one
abbrev pub text_or_empty : Option (List ℕ) → List ℕ
text_or_empty None = []
text_or_empty (Some text) = text

abbrev pub or_empty : Texts → InterfaceNames
or_empty = map text_or_empty
