-- Packages that mean what their texts do (WIT, Packages, Items, Types).
use Rattle.std.specs.Prelude.{◌≡◌, ℕ, ◌+◌, List, Some, slice_get}
use Rattle.wit_syntax.specs.Ast.{FileTree}
use Rattle.wit_types.specs.declared.interface.Interface.{Interface}
use Rattle.wit_types.specs.declared.«package».UnresolvedPackage.{UnresolvedPackage}
use Rattle.wit_types.specs.declared.world.World.{World}
use Rattle.wit_offsets.specs.Offsets.{package_at}
use Rattle.wit_scopes.specs.Scopes.{WorldScope}
use Rattle.wit_arena.specs.Tree.{Name, Owner, Tree}
use Rattle.wit_arena.specs.Unfold.{IsWhole}
use Rattle.wit_well_formed.specs.Passed.wit_resolved_scopes-InArena.{Context}
use Rattle.wit_well_formed.specs.Passed.wit_resolved_scopes-Texts.{InterfaceText, interface_texts, worlds_of}
use Rattle.wit_well_formed.specs.Passed.wit_package-Resolved.{context_of}
use Rattle.wit_well_formed.specs.Passed.wit_package-Steps.{Resolves}
use Rattle.wit_graph.specs.Passed.wit_graph_parts-Own.{asked, own_parts}
use Rattle.wit_pushed_trees.specs.Meaning.{IsOfText}
use Rattle.wit_pushed_trees.specs.Worlds.{all_kept, IsWorldMeant}

-- whatever is given for names of other packages, types refer backwards alone, each interface of the package's own is that of one of these texts,
-- and what its worlds have themselves means what their texts do
pub record IsPackageMeant (c : Context) (interfaces : List InterfaceText) (worlds : List WorldScope) (p : UnresolvedPackage) : Type 0 where
  pub whole : (given : Owner → Name → Tree) → IsWhole c.owners given p.types
  pub each_interface : (given : Owner → Name → Tree) (k : ℕ) (d : Interface) → slice_get (own_parts p).interfaces k ≡ Some d → IsOfText given c c.owners p.types interfaces ((asked p).interfaces + k) d
  pub each_world : (given : Owner → Name → Tree) (k : ℕ) (w : World) → slice_get (own_parts p).worlds k ≡ Some w → IsWorldMeant all_kept given c c.owners p.types worlds w.name w.stability w.imports.entries w.exports.entries w.includes.items

-- so it is of a package to which files are resolved
abbrev pub ResolvedPackagesMeanTheirTexts : Type 0
ResolvedPackagesMeanTheirTexts =
    (files : List FileTree) (p : UnresolvedPackage) (r : Resolves files p) → IsPackageMeant (context_of r.resolved.me files r.resolved.items r.resolved.sorted) (interface_texts r.resolved.sorted) (worlds_of r.resolved.sorted) p

-- and wherever its texts stand among others
abbrev pub MovedPackagesMeanTheirTexts : Type 0
MovedPackagesMeanTheirTexts = (c : Context) (interfaces : List InterfaceText) (worlds : List WorldScope) (p : UnresolvedPackage) (n : ℕ) → IsPackageMeant c interfaces worlds p → IsPackageMeant c interfaces worlds (package_at n p)
