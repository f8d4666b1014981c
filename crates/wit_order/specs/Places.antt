-- Places that need one another, by rows: what an order of them is, and why there is none.
use Rattle.std.specs.Prelude.{◌≡◌, ℕ, ◌<◌, ◌⊎◌, zero, suc, List, [], ◌∷◌, length, slice_index, Vec}
use Rattle.std.specs.declared.alloc.Global.{Global}
use Rattle.wit_order.specs.Order.{Has, Leads, IsOnCircle, IsLeastOrder}
use Rattle.wit_order.specs.declared.places.PlaceFault.{PlaceFault}
use Rattle.wit_order.specs.declared.places.PlaceFault.TheVariants.{Circle, OutOfMemory}

-- for each place the places that it needs
abbrev pub Rows : Type 0
Rows = List (Vec ℕ Global)

-- the row of a place
abbrev pub row : Rows → ℕ → List ℕ
row [] i = []
row (r ∷ rs) zero = r.items
row (r ∷ rs) (suc i) = row rs i

-- place i needs place j
abbrev pub Needs : Rows → ℕ → ℕ → Type 0
Needs g i j = Has (row g i) j

-- each place that stands in a row is below n
abbrev pub AreBelow : Rows → ℕ → Type 0
AreBelow g n = (i j : ℕ) → Has (row g i) j → j < n

-- each place needs places before it alone
abbrev pub NeedEarlier : Rows → Type 0
NeedEarlier g = (i j : ℕ) → Needs g i j → j < i

-- no place leads back to itself
abbrev pub HasNoCircle : Rows → Type 0
HasNoCircle g = (i : ℕ) → IsOnCircle (length g) (Needs g) i → ⊥

-- what stands at this place of the row leads back
pub record IsCircle (g : Rows) (i k : ℕ) : Type 0 where
  pub need : k < length (row g i)
  pub back : (slice_index (row g i) k ≡ i) ⊎ ((via : List ℕ) × Leads (length g) (Needs g) (slice_index (row g i) k) via i)

-- the sentence of a refusal
abbrev pub IsPlaceCause : Rows → PlaceFault → Type 0
IsPlaceCause g (Circle c) = IsCircle g c.from c.need
IsPlaceCause g OutOfMemory = Unit {0}

-- the least order, where no circle is
pub record IsSorted (g : Rows) (order : List ℕ) : Type 0 where
  pub least : IsLeastOrder (length g) (Needs g) order
  pub no_circle : HasNoCircle g
