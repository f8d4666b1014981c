-- What the files of a package are resolved to may be put into a graph of packages, wherever their texts stand (WIT, Packages, Use).
use Rattle.std.specs.Prelude.{◌≡◌, ℕ, ◌≤◌, List, ◌∷◌, length, drop}
use Rattle.wit_words.specs.Sources.{SourceText}
use Rattle.wit_order.specs.Order.{Has}
use Rattle.wit_types.specs.declared.world.World.{World}
use Rattle.wit_types.specs.declared.«package».UnresolvedPackage.{UnresolvedPackage}
use Rattle.wit_package.specs.Passed.wit_syntax-Ast.{FileTree}
use Rattle.wit_reach.specs.Holding.{HoldTheirTypes}
use Rattle.wit_elaborated.specs.Worlds.{AreKeysOfItems}
use Rattle.wit_finding.specs.Asks.{AreDepsThere, items_of}
use Rattle.wit_labels.specs.Passed.wit_placed-Order.{AreNamelessFree}
use Rattle.wit_graph_parts.specs.Own.{IsWellFormed}
use Rattle.wit_package.specs.Group.{AreParsed}
use Rattle.wit_package.specs.Steps.{Resolves}
use Rattle.wit_offsets.specs.Offsets.{package_at}

-- there is a span for each package of which something is asked
abbrev pub SpansAreCounted : Type 0
SpansAreCounted = (files : List FileTree) (p : UnresolvedPackage) → Resolves files p → length p.foreign_dep_spans.items ≡ length p.foreign_deps.entries

-- and a type for each span of one that is asked for
abbrev pub UnknownTypesAreThere : Type 0
UnknownTypesAreThere = (files : List FileTree) (p : UnresolvedPackage) → Resolves files p → length p.unknown_type_spans.items ≤ length p.types

-- each interface and each world that is asked for has its place
abbrev pub AskedItemsAreThere : Type 0
AskedItemsAreThere = (files : List FileTree) (p : UnresolvedPackage) → Resolves files p → AreDepsThere p.interfaces p.worlds (items_of p.foreign_deps.entries)

-- behind however many: types without a name belong nowhere
abbrev pub NamelessTypesAreFree : Type 0
NamelessTypesAreFree = (files : List FileTree) (p : UnresolvedPackage) (others : ℕ) → Resolves files p → AreNamelessFree (drop others p.types)

-- types and functions of each interface are made of types of it and of those in front of it
abbrev pub InterfacesHoldTheirTypes : Type 0
InterfacesHoldTheirTypes = (files : List FileTree) (p : UnresolvedPackage) (others : ℕ) → Resolves files p → HoldTheirTypes others p.types (drop others p.interfaces)

-- what a world imports under the key of an interface is that interface
abbrev pub KeysAreOfItems : Type 0
KeysAreOfItems = (files : List FileTree) (p : UnresolvedPackage) (others : ℕ) → Resolves files p → (w : World) → Has (drop others p.worlds) w → AreKeysOfItems w.imports.entries

-- all of this together
abbrev pub ResolvedPackagesAreWellFormed : Type 0
ResolvedPackagesAreWellFormed = (files : List FileTree) (p : UnresolvedPackage) → Resolves files p → IsWellFormed p

-- each package of texts, too, the one of the texts and those that are nested in them
abbrev pub ParsedPackagesAreWellFormed : Type 0
ParsedPackagesAreWellFormed = (texts : List SourceText) (main : UnresolvedPackage) (nested : List UnresolvedPackage) → AreParsed texts main nested → (p : UnresolvedPackage) → Has (main ∷ nested) p → IsWellFormed p

-- what may be put into a graph still may with its places so many bytes further on
abbrev pub MovedPackagesAreWellFormed : Type 0
MovedPackagesAreWellFormed = (p : UnresolvedPackage) (n : ℕ) → IsWellFormed p → IsWellFormed (package_at n p)
