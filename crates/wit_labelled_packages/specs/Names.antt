-- Names of packages of texts (WIT, Package Names).
use Rattle.std.specs.Prelude.{ℕ, List, ◌∷◌}
use Rattle.wit_words.specs.Sources.{SourceText}
use Rattle.wit_order.specs.Order.{Has}
use Rattle.wit_types.specs.declared.«package».UnresolvedPackage.{UnresolvedPackage}
use Rattle.wit_well_formed.specs.Passed.wit_package-Group.{AreParsed}
use Rattle.wit_offsets.specs.Offsets.{package_at}
use Rattle.wit_new_names.specs.Names.{IsReadName}

-- the name of each package of texts, of the one of the texts and those that are nested in them, has no marks in its parts, and its version is read back
abbrev pub ParsedNamesReadBack : Type 0
ParsedNamesReadBack =
    (texts : List SourceText) (main : UnresolvedPackage) (nested : List UnresolvedPackage) → AreParsed texts main nested → (p : UnresolvedPackage) → Has (main ∷ nested) p → IsReadName p.name

-- wherever its places are
abbrev pub MovedNamesReadBack : Type 0
MovedNamesReadBack = (p : UnresolvedPackage) (n : ℕ) → IsReadName p.name → IsReadName (package_at n p).name
