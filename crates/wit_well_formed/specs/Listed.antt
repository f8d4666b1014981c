-- Interfaces of a resolved package have all types of it that belong to an interface (WIT, Item: `interface`).
use Rattle.std.specs.Prelude.{List}
use Rattle.wit_types.specs.declared.«package».UnresolvedPackage.{UnresolvedPackage}
use Rattle.wit_package.specs.Passed.wit_syntax-Ast.{FileTree}
use Rattle.wit_reach.specs.Holding.{AreListed}
use Rattle.wit_labels.specs.Passed.wit_placed-Listed.{AreOwnersBehind}
use Rattle.wit_graph_parts.specs.Own.{asked, own_parts}
use Rattle.wit_package.specs.Steps.{Resolves}

-- behind those of other packages, each type that belongs to an interface of its own stands there
abbrev pub TypesAreListed : Type 0
TypesAreListed = (files : List FileTree) (p : UnresolvedPackage) → Resolves files p → AreListed (asked p).interfaces p.types (own_parts p).interfaces

-- and none of its own belongs to an interface of another package
abbrev pub OwnTypesAreOwned : Type 0
OwnTypesAreOwned = (files : List FileTree) (p : UnresolvedPackage) → Resolves files p → AreOwnersBehind (asked p).interfaces (own_parts p).types
