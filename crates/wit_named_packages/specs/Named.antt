-- Packages of texts may be put into a graph whose items are named, wherever their texts stand (WIT, Use, Package Names).
use Rattle.std.specs.Prelude.{ℕ, List, ◌∷◌}
use Rattle.wit_words.specs.Sources.{SourceText}
use Rattle.wit_types.specs.declared.«package».UnresolvedPackage.{UnresolvedPackage}
use Rattle.wit_order.specs.Order.{Has}
use Rattle.wit_well_formed.specs.Passed.wit_package-Group.{AreParsed}
use Rattle.wit_named_graphs.specs.Pushed.{IsNamedPackage}
use Rattle.wit_offsets.specs.Offsets.{package_at}

-- each package of texts, the one of the texts and those that are nested in them
abbrev pub ParsedPackagesAreNamed : Type 0
ParsedPackagesAreNamed = (texts : List SourceText) (main : UnresolvedPackage) (nested : List UnresolvedPackage) → AreParsed texts main nested → (p : UnresolvedPackage) → Has (main ∷ nested) p → IsNamedPackage p

-- wherever its places are
abbrev pub MovedPackagesAreNamed : Type 0
MovedPackagesAreNamed = (p : UnresolvedPackage) (n : ℕ) → IsNamedPackage p → IsNamedPackage (package_at n p)
