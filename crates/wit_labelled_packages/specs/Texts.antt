-- Names within packages of texts differ, and functions of their worlds stand under their names (WIT, Items, Item: `world`).
use Rattle.std.specs.Prelude.{ℕ, List, ◌∷◌}
use Rattle.wit_words.specs.Sources.{SourceText}
use Rattle.wit_order.specs.Order.{Has}
use Rattle.wit_types.specs.declared.world.World.{World}
use Rattle.wit_types.specs.declared.«package».UnresolvedPackage.{UnresolvedPackage}
use Rattle.wit_syntax.specs.Ast.{FileTree}
use Rattle.wit_well_formed.specs.Passed.wit_labels-Labels.{AreNamesWithinApart}
use Rattle.wit_well_formed.specs.Passed.wit_package-Group.{AreParsed}
use Rattle.wit_well_formed.specs.Passed.wit_package-Steps.{Resolves}
use Rattle.wit_offsets.specs.Offsets.{package_at}
use Rattle.wit_labelled_graphs.specs.Named.{AreFunctionsUnderNames, HasNamedWorlds}

-- of each package of texts, the one of the texts and those that are nested in them
abbrev pub ParsedPackagesHaveNamesApart : Type 0
ParsedPackagesHaveNamesApart =
    (texts : List SourceText) (main : UnresolvedPackage) (nested : List UnresolvedPackage) → AreParsed texts main nested → (p : UnresolvedPackage) → Has (main ∷ nested) p → AreNamesWithinApart p.types p.interfaces p.worlds

-- a world of resolved files exports functions under plain names alone
abbrev pub ExportedFunctionsAreUnderNames : Type 0
ExportedFunctionsAreUnderNames = (files : List FileTree) (p : UnresolvedPackage) → Resolves files p → (w : World) → Has p.worlds w → AreFunctionsUnderNames w.exports.entries

abbrev pub ParsedPackagesHaveNamedWorlds : Type 0
ParsedPackagesHaveNamedWorlds =
    (texts : List SourceText) (main : UnresolvedPackage) (nested : List UnresolvedPackage) → AreParsed texts main nested → (p : UnresolvedPackage) → Has (main ∷ nested) p → HasNamedWorlds p

-- wherever its places are
abbrev pub MovedPackagesHaveNamedWorlds : Type 0
MovedPackagesHaveNamedWorlds = (p : UnresolvedPackage) (n : ℕ) → HasNamedWorlds p → HasNamedWorlds (package_at n p)
