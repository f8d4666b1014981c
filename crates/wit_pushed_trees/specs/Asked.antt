-- What a package asks of others (WIT, Packages, Use, Package Names).
use Rattle.std.specs.Prelude.{◌≡◌, ℕ, List, Some, String, option_map, slice_get, string_bytes}
use Rattle.std.specs.declared.alloc.Global.{Global}
use Rattle.semver.specs.Identifiers.{version_text}
use Rattle.wit_syntax.specs.Ast.{FileTree}
use Rattle.wit_types.specs.declared.interface.TypeDef.{TypeDef}
use Rattle.wit_types.specs.declared.kind.TypeDefKind.TheVariants as kind
use Rattle.wit_types.specs.declared.«package».AstItem.{AstItem}
use Rattle.wit_types.specs.declared.«package».AstItem.TheVariants as ids
use Rattle.wit_types.specs.declared.«package».PackageName.{PackageName}
use Rattle.wit_types.specs.declared.«package».UnresolvedPackage.{UnresolvedPackage}
use Rattle.wit_offsets.specs.Offsets.{package_at}
use Rattle.wit_arena.specs.Tree.{Name, in_interface, in_world, PackageText, Owner}
use Rattle.wit_arena.specs.Unfold.{Owners}
use Rattle.wit_arena.specs.Meaning.{Has}
use Rattle.wit_well_formed.specs.Passed.wit_foreign-Deps.{ItemEntry, PackageEntry, package_entries}
use Rattle.wit_well_formed.specs.Passed.wit_package-Resolved.{context_of}
use Rattle.wit_well_formed.specs.Passed.wit_package-Steps.{Resolves}
use Rattle.wit_graph.specs.Passed.wit_graph_parts-Own.{own_parts}

-- the texts of a name
abbrev pub text_of : PackageName → PackageText
text_of n = record { namespace = string_bytes n.namespace; name = string_bytes n.name; version = option_map version_text n.version }

-- an interface or a world of the package of that name
abbrev pub owner_asked : PackageName → AstItem → Name → Owner
owner_asked n (ids.Interface i) x = record { package_text = text_of n; place = in_interface x }
owner_asked n (ids.World i) x = record { package_text = text_of n; place = in_world x }

-- the interface or world of that id is that one
abbrev pub IsWhose : Owners → AstItem → Owner → Type 0
IsWhose owners (ids.Interface i) w = slice_get owners.interfaces i ≡ Some w
IsWhose owners (ids.World i) w = slice_get owners.worlds i ≡ Some w

-- of a type its name alone is known
pub record IsName (d : TypeDef) : Type 0 where
  pub kind : d.kind ≡ kind.Unknown
  pub name : String Global
  pub named : d.name ≡ Some name

-- each interface and world that a package asks of another is the one of the other's under the name by which it is asked for, and of types
-- that it asks for the names alone are known
pub record AsksByName (owners : Owners) (p : UnresolvedPackage) : Type 0 where
  pub items : (d : PackageEntry) → Has (package_entries p.foreign_deps.entries) d → (e : ItemEntry) → Has d.1 e → IsWhose owners e.1.0 (owner_asked d.0 e.1.0 (string_bytes e.0))
  pub types : (k : ℕ) (d : TypeDef) → slice_get (own_parts p).unknown k ≡ Some d → IsName d

-- so does a package to which files are resolved
abbrev pub ResolvedPackagesAskByName : Type 0
ResolvedPackagesAskByName = (files : List FileTree) (p : UnresolvedPackage) (r : Resolves files p) → AsksByName (context_of r.resolved.me files r.resolved.items r.resolved.sorted).owners p

-- wherever its texts stand among others
abbrev pub MovedPackagesAskByName : Type 0
MovedPackagesAskByName = (owners : Owners) (p : UnresolvedPackage) (n : ℕ) → AsksByName owners p → AsksByName owners (package_at n p)
