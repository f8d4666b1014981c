-- Packages that are resolved ask for each interface and each world of others under one name (WIT, Packages, Use).
use Rattle.std.specs.Prelude.{List, ◌∷◌}
use Rattle.wit_words.specs.Sources.{SourceText}
use Rattle.wit_order.specs.Order.{Has}
use Rattle.wit_types.specs.declared.«package».UnresolvedPackage.{UnresolvedPackage}
use Rattle.wit_syntax.specs.Ast.{FileTree}
use Rattle.wit_package.specs.Group.{AreParsed}
use Rattle.wit_package.specs.Steps.{Resolves}
use Rattle.wit_push_causes.specs.Asked.{AsksForOne}

abbrev pub ResolvedPackagesAskForOne : Type 0
ResolvedPackagesAskForOne = (files : List FileTree) (p : UnresolvedPackage) → Resolves files p → AsksForOne p

-- each package of texts, the one of the texts and those that are nested in them
abbrev pub ParsedPackagesAskForOne : Type 0
ParsedPackagesAskForOne = (texts : List SourceText) (main : UnresolvedPackage) (nested : List UnresolvedPackage) → AreParsed texts main nested → (p : UnresolvedPackage) → Has (main ∷ nested) p → AsksForOne p
