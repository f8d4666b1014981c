-- Worlds with all that they import in the end (Component Model, WIT, Worlds).
use Rattle.std.specs.Prelude.{◌≡◌, ℕ, List, [], ◌∷◌}
use Rattle.wit_reach.specs.Passed.wit_order-Places.{Rows}
use Rattle.wit_reach.specs.Passed.wit_types-declared-interface-TypeDef.{TypeDef}
use Rattle.wit_reach.specs.Passed.wit_types-declared-interface-Interface.{Interface}
use Rattle.wit_reach.specs.Passed.wit_types-declared-world-World.{World}
use Rattle.wit_reach.specs.Passed.wit_types-declared-world_key-WorldKey-TheVariants as key
use Rattle.wit_reach.specs.Reach.{Lists, Uses, IsElaboration, IsConflict}
use Rattle.wit_reach.specs.Lists.{AreListsOf, item_interface}
use Rattle.wit_reach.specs.declared.reach.ElaborateFault.{ElaborateFault}
use Rattle.wit_reach.specs.declared.reach.ElaborateFault.TheVariants.{ExportConflict, OutOfMemory}
use Rattle.wit_elaborated.specs.Elaborated.{Entry, elaborated}

-- what stands under an interface is that interface
abbrev pub IsKeyOfItem : Entry → Type 0
IsKeyOfItem (key.Name n, x) = Unit {0}
IsKeyOfItem (key.Interface i, x) = item_interface x ≡ i ∷ []

abbrev pub AreKeysOfItems : List Entry → Type 0
AreKeysOfItems [] = Unit {0}
AreKeysOfItems (e ∷ es) = IsKeyOfItem e × AreKeysOfItems es

-- the world imports the interfaces that it imports in the end, and what has a plain name; the rest of it stays
pub record IsElaboratedWorld (types : List TypeDef) (interfaces : List Interface) (uses : Rows) (world found : World) : Type 0 where
  pub lists : Lists
  pub order : List ℕ
  pub listed : AreListsOf types (Uses uses) world lists
  pub elaboration : IsElaboration uses lists order
  pub imports : found.imports.entries ≡ elaborated interfaces order world.imports.entries
  pub rest : found ≡ record world { imports = found.imports }

-- an export of the world is needed from outside
abbrev pub IsElaboratedCause : List TypeDef → Rows → World → ElaborateFault → Type 0
IsElaboratedCause types uses world (ExportConflict i) = (lists : Lists) × AreListsOf types (Uses uses) world lists × IsConflict uses lists i
IsElaboratedCause types uses world OutOfMemory = Unit {0}
