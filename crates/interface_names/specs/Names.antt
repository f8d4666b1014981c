-- Names under which interfaces of a world are imported, by the interfaces' ids (Component Model, Explainer, Import and Export Definitions; WIT,
-- Item: `world`).
use Rattle.std.specs.Prelude.{◌≡◌, ◌⊎◌, ℕ, ◌<◌, List, [], get_or, length, Some}
use Rattle.wasm_types.specs.Entries.{ImportValue}
use Rattle.wit_order.specs.Order.{Has}
use Rattle.wit_words.specs.declared.source_map.Span.{Span}
use Rattle.wit_types.specs.declared.function.Function.{Function}
use Rattle.wit_types.specs.declared.stability.Stability.{Stability}
use Rattle.wit_types.specs.declared.world.WorldItem.TheVariants as item
use Rattle.wit_types.specs.declared.world_key.WorldKey.{WorldKey}
use Rattle.wit_names.specs.Names.{ArePackagesKnown, IsKeyThere}
use Rattle.core_links.specs.Names.{Names}
use Rattle.core_links.specs.Needed.{IsKeyOf, IsNeeded}
use Rattle.linked_worlds.specs.Passed.type_sinks-Root.{InterfaceNames}
use Rattle.linked_worlds.specs.Passed.right_components-Outside.{IsTextOf, IsImportedUnder, AreInterfaceNames}

-- ---- what the world imports is there

abbrev pub ArePackagesThere : Names → Type 0
ArePackagesThere n = ArePackagesKnown n.known.packages n.known.interfaces

-- the interface, and that of which the key is
abbrev pub IsImportThere : Names → WorldKey → ℕ → Type 0
IsImportThere n key id = IsKeyThere n.known.interfaces key × (id < length n.known.interfaces)

pub record AreImportsThere (n : Names) : Type 0 where
  pub packages : ArePackagesThere n
  pub interfaces : (key : WorldKey) (id : ℕ) (stability : Stability) (span : Span) → Has n.world.imports.entries (key, item.Interface id stability span) → IsImportThere n key id

-- ---- names

-- core imports name a function of the interface by a key of this text
pub record IsNeededUnder (n : Names) (is : List ImportValue) (id : ℕ) (text : List ℕ) : Type 0 where
  pub key : WorldKey
  pub is_key : IsKeyOf n key id
  pub function : Function
  pub needed : IsNeeded n is (Some key) function
  pub text_is : IsTextOf n key text

-- at the id of each interface stands the text of a key under which the world imports it, that by which core imports name it where they do,
-- and nothing at those that it doesn't import
pub record AreNamesById (n : Names) (is : List ImportValue) (names : InterfaceNames) : Type 0 where
  pub so_many : length names ≡ length n.known.interfaces
  pub are : AreInterfaceNames n is names
  pub only : (id : ℕ) → (get_or names id [] ≡ []) ⊎ IsImportedUnder n id (get_or names id [])

-- ---- what has no such names

-- core imports name functions of one interface by keys of two texts
pub record HasTwoNames (n : Names) (is : List ImportValue) : Type 0 where
  pub id : ℕ
  pub one : List ℕ
  pub other : List ℕ
  pub under_one : IsNeededUnder n is id one
  pub under_other : IsNeededUnder n is id other
  pub apart : one ≡ other → ⊥
