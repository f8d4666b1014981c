-- Names of packages, and of what stands in them, tell these apart (WIT, Packages, Package Names, Item: `world`).
use Rattle.std.specs.Prelude.{◌≡◌, ℕ, List, Some, slice_get, string_bytes}
use Rattle.wit_syntax.specs.Ast.{FileTree}
use Rattle.wit_types.specs.declared.world.World.{World}
use Rattle.wit_types.specs.declared.«package».Package.{Package}
use Rattle.wit_types.specs.declared.«package».PackageName.{PackageName}
use Rattle.wit_types.specs.declared.«package».UnresolvedPackage.{UnresolvedPackage}
use Rattle.wit_offsets.specs.Offsets.{package_at}
use Rattle.wit_graph.specs.Passed.wit_placed-Naming.{AreNamesApart}
use Rattle.wit_arena.specs.Tree.{Name, in_world, Owner}
use Rattle.wit_arena.specs.Unfold.{Owners}
use Rattle.wit_arena.specs.Meaning.{Has}
use Rattle.wit_graph.specs.Passed.wit_graph_parts-Own.{own_parts}
use Rattle.wit_well_formed.specs.Passed.wit_package-Steps.{Resolves}
use Rattle.wit_pushed_trees.specs.Asked.{text_of}

-- it is a world of one of the packages
pub record IsWorldIn (packages : List Package) (w : Owner) : Type 0 where
  pub «package» : Package
  pub there : Has packages «package»
  pub text : w.package_text ≡ text_of «package».name
  pub name : Name
  pub place_is : w.place ≡ in_world name

-- no two worlds have one owner, each of them is a world of a package, and no interface is one
pub record AreWorldsApart (owners : Owners) (packages : List Package) : Type 0 where
  pub apart : (i j : ℕ) (w : Owner) → slice_get owners.worlds i ≡ Some w → slice_get owners.worlds j ≡ Some w → i ≡ j
  pub worlds_are : (i : ℕ) (w : Owner) → slice_get owners.worlds i ≡ Some w → IsWorldIn packages w
  pub interfaces_are : (i : ℕ) (w : Owner) (x : Name) → slice_get owners.interfaces i ≡ Some w → w.place ≡ in_world x → ⊥

-- no two packages have one name, no two interfaces of one do, and no two worlds
pub record AreTablesApart (packages : List Package) : Type 0 where
  pub packages_are : (i j : ℕ) (q r : Package) → slice_get packages i ≡ Some q → slice_get packages j ≡ Some r → text_of q.name ≡ text_of r.name → i ≡ j
  pub interfaces_are : (q : Package) → Has packages q → AreNamesApart q.interfaces.entries
  pub worlds_are : (q : Package) → Has packages q → AreNamesApart q.worlds.entries

-- two of a package's own worlds have different names
abbrev pub AreWorldsNamedApart : UnresolvedPackage → Type 0
AreWorldsNamedApart p = (i j : ℕ) (w v : World) → slice_get (own_parts p).worlds i ≡ Some w → slice_get (own_parts p).worlds j ≡ Some v → string_bytes w.name ≡ string_bytes v.name → i ≡ j

abbrev pub ResolvedWorldsAreNamedApart : Type 0
ResolvedWorldsAreNamedApart = (files : List FileTree) (p : UnresolvedPackage) → Resolves files p → AreWorldsNamedApart p

-- wherever its texts stand among others
abbrev pub MovedWorldsAreNamedApart : Type 0
MovedWorldsAreNamedApart = (p : UnresolvedPackage) (n : ℕ) → AreWorldsNamedApart p → AreWorldsNamedApart (package_at n p)

-- no package has these texts and version
abbrev pub IsNewText : List Package → PackageName → Type 0
IsNewText packages n = (q : Package) → Has packages q → text_of q.name ≡ text_of n → ⊥
