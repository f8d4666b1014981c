-- What has a plain name in a world of a resolved package stands under it, once on each side (WIT, Item: `world`).
use Rattle.std.specs.Prelude.{◌≡◌, ℕ, List, Some, slice_get}
use Rattle.wit_types.specs.declared.interface.TypeDef.{TypeDef}
use Rattle.wit_order.specs.Order.{Has}
use Rattle.wit_types.specs.declared.world.World.{World}
use Rattle.wit_types.specs.declared.«package».UnresolvedPackage.{UnresolvedPackage}
use Rattle.wit_package.specs.Passed.wit_syntax-Ast.{FileTree}
use Rattle.wit_labels.specs.Plain.{IsWorldUnderItsNames}
use Rattle.wit_labels.specs.Types.{HasOwnTypes}
use Rattle.wit_package.specs.Steps.{Resolves}
use Rattle.wit_offsets.specs.Offsets.{package_at}

abbrev pub WorldsAreUnderTheirNames : Type 0
WorldsAreUnderTheirNames = (files : List FileTree) (p : UnresolvedPackage) → Resolves files p → (w : World) → Has p.worlds w → IsWorldUnderItsNames p.types w

-- wherever its places are
abbrev pub MovedWorldsAreUnderTheirNames : Type 0
MovedWorldsAreUnderTheirNames =
    (p : UnresolvedPackage) (n : ℕ) → ((w : World) → Has p.worlds w → IsWorldUnderItsNames p.types w) → (w : World) → Has (package_at n p).worlds w → IsWorldUnderItsNames (package_at n p).types w

-- the types that stand on both sides of the world with that id
pub record AreOwnTypes (types : List TypeDef) (id : ℕ) (w : World) : Type 0 where
  pub imports : HasOwnTypes types id w.imports.entries
  pub exports : HasOwnTypes types id w.exports.entries

-- belong to it
abbrev pub WorldsHaveOwnTypes : Type 0
WorldsHaveOwnTypes = (files : List FileTree) (p : UnresolvedPackage) → Resolves files p → (n : ℕ) (w : World) → slice_get p.worlds n ≡ Some w → AreOwnTypes p.types n w

-- wherever its places are
abbrev pub MovedWorldsHaveOwnTypes : Type 0
MovedWorldsHaveOwnTypes =
    (p : UnresolvedPackage) (n : ℕ) → ((i : ℕ) (w : World) → slice_get p.worlds i ≡ Some w → AreOwnTypes p.types i w)
    → (i : ℕ) (w : World) → slice_get (package_at n p).worlds i ≡ Some w → AreOwnTypes (package_at n p).types i w
