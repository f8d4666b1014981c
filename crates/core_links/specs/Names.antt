-- Which core names count (Component Model, Build Targets).
use Rattle.std.specs.Prelude.{ℕ, List, Bool, not}
use Rattle.wit_types.specs.declared.world.World.{World}
use Rattle.wit_core_names.specs.Texts.{Known, known}
use Rattle.wit_core_items.specs.World.{ImportStandsFor, ExportStandsFor}
use Rattle.core_links.specs.declared.names.CoreNames.{CoreNames}

-- those of a world of packages that are known, in the spelling of the standard, and in the legacy one unless that is rejected
pub record Names : Type 0 where
  pub known : Known
  pub world : World
  pub rejects_legacy : Bool

abbrev pub names_in : CoreNames → Names
names_in n = record { known = known n.tables; world = n.world.now; rejects_legacy = n.rejects_legacy }

abbrev pub counts_legacy : Names → Bool
counts_legacy n = not n.rejects_legacy

-- a pair of texts stands for what the world has at that place among all that modules may import, and a text for what it has among exports
abbrev pub IsImport : Names → List ℕ → List ℕ → ℕ → Type 0
IsImport n place name i = ImportStandsFor n.known n.world (counts_legacy n) place name i

abbrev pub IsExport : Names → List ℕ → ℕ → Type 0
IsExport n name i = ExportStandsFor n.known n.world (counts_legacy n) name i
