-- Lists that are parts of one.
use Rattle.std.specs.Prelude.{ℕ, ◌-◌, ◌≤◌, List, map, take, drop}
use Rattle.wit_order.specs.Order.{Has}
use Rattle.wit_closures.specs.declared.lists.Range.{Range}

abbrev pub part : List ℕ → Range → List ℕ
part items r = take (r.end - r.start) (drop r.start items)

abbrev pub parts : List ℕ → List Range → List (List ℕ)
parts items ranges = map (part items) ranges

-- from a place to one that isn't before it, within the list
pub record IsWithin (n : ℕ) (r : Range) : Type 0 where
  pub rising : r.start ≤ r.end
  pub within : r.end ≤ n

abbrev pub AreWithin : ℕ → List Range → Type 0
AreWithin n ranges = (r : Range) → Has ranges r → IsWithin n r
