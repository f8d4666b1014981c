-- More than their names is known of all types of a graph (WIT, Types, Use).
use Rattle.std.specs.Prelude.{◌≡◌, ℕ, Bool, List, Some, slice_get}
use Rattle.wit_syntax.specs.Ast.{FileTree}
use Rattle.wit_types.specs.declared.interface.TypeDef.{TypeDef}
use Rattle.wit_types.specs.declared.kind.TypeDefKind.TheVariants as kind
use Rattle.wit_types.specs.declared.«package».PackageName.{PackageName}
use Rattle.wit_types.specs.declared.«package».UnresolvedPackage.{UnresolvedPackage}
use Rattle.wit_features.specs.Features.{FeatureSet}
use Rattle.wit_offsets.specs.Offsets.{package_at}
use Rattle.wit_well_formed.specs.Passed.wit_package-Steps.{Resolves}
use Rattle.wit_graph.specs.Passed.wit_graph_parts-Own.{own_parts}
use Rattle.wit_graph.specs.Graph.{Graph, nothing}
use Rattle.wit_graph.specs.Push.{IsPushed}

-- none of these is one of which its name alone is known
abbrev pub AreTypesKnown : List TypeDef → Type 0
AreTypesKnown types = (i : ℕ) (d : TypeDef) → slice_get types i ≡ Some d → d.kind ≡ kind.Unknown → ⊥

-- so are a package's own types
abbrev pub AreOwnTypesKnown : UnresolvedPackage → Type 0
AreOwnTypesKnown p = AreTypesKnown (own_parts p).types

abbrev pub ResolvedTypesAreKnown : Type 0
ResolvedTypesAreKnown = (files : List FileTree) (p : UnresolvedPackage) → Resolves files p → AreOwnTypesKnown p

abbrev pub MovedTypesAreKnown : Type 0
MovedTypesAreKnown = (p : UnresolvedPackage) (n : ℕ) → AreOwnTypesKnown p → AreOwnTypesKnown (package_at n p)

-- and all types of a graph without packages, and with each that comes
abbrev pub EmptyTypesAreKnown : Type 0
EmptyTypesAreKnown = AreTypesKnown (nothing).types

abbrev pub PushedTypesAreKnown : Type 0
PushedTypesAreKnown =
    (eq : PackageName → PackageName → Bool) (features : FeatureSet) (old : Graph) (p : UnresolvedPackage) (new : Graph) (id : ℕ) → IsPushed eq features old p new id
    → AreTypesKnown old.tables.types → AreOwnTypesKnown p → AreTypesKnown new.tables.types
