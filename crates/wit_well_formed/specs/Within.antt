-- Labels of each type of a resolved package differ, and names of the parameters of each function (WIT, Items, Types).
use Rattle.std.specs.Prelude.{◌≡◌, ℕ, List, None, Some, slice_get}
use Rattle.wit_types.specs.declared.interface.TypeDef.{TypeDef}
use Rattle.wit_types.specs.declared.«package».UnresolvedPackage.{UnresolvedPackage}
use Rattle.wit_package.specs.Passed.wit_syntax-Ast.{FileTree}
use Rattle.wit_package.specs.Passed.wit_arena-Arena.{IsUnnamed}
use Rattle.wit_package.specs.Passed.wit_arena-Shape.{ShapeTree}
use Rattle.wit_labels.specs.Labels.{AreNamesWithinApart}
use Rattle.wit_package.specs.Steps.{Resolves}
use Rattle.wit_offsets.specs.Offsets.{package_at}

-- types of other packages have no labels, interfaces and worlds of others no functions
abbrev pub NamesWithinAreApart : Type 0
NamesWithinAreApart = (files : List FileTree) (p : UnresolvedPackage) → Resolves files p → AreNamesWithinApart p.types p.interfaces p.worlds

-- they do wherever its places are
abbrev pub MovedPackagesHaveNamesApart : Type 0
MovedPackagesHaveNamesApart = (p : UnresolvedPackage) (n : ℕ) → AreNamesWithinApart p.types p.interfaces p.worlds → (let q = package_at n p in AreNamesWithinApart q.types q.interfaces q.worlds)

-- and a type of it without a name is a form that is made of other types
abbrev pub NamelessTypesAreForms : Type 0
NamelessTypesAreForms = (files : List FileTree) (p : UnresolvedPackage) → Resolves files p → (i : ℕ) (d : TypeDef) → slice_get p.types i ≡ Some d → d.name ≡ None → (k : ShapeTree) × IsUnnamed k d
