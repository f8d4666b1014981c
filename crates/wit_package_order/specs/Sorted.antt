-- Packages that are taken one by one in an order.
use Rattle.std.specs.Prelude.{◌≡◌, ℕ, List, Option, Some, take, length, slice_get}
use Rattle.wit_types.specs.declared.«package».UnresolvedPackage.{UnresolvedPackage}
use Rattle.wit_order.specs.Order.{Has}
use Rattle.wit_package_order.specs.Packages.{AreAt}

-- those at the first so many places of the order are taken, the others are still there
pub record AreTaken (ps : List UnresolvedPackage) (order : List ℕ) (n : ℕ) (slots : List (Option UnresolvedPackage)) (sorted : List UnresolvedPackage) : Type 0 where
  pub size : length slots ≡ length ps
  pub taken : AreAt ps (take n order) sorted
  pub left : (j : ℕ) (p : UnresolvedPackage) → slice_get ps j ≡ Some p → (Has (take n order) j → ⊥) → slice_get slots j ≡ Some (Some p)
