-- Where interfaces and worlds that are asked for stand in a graph.
use Rattle.std.specs.Prelude.{◌≡◌, ◌<◌, ℕ, true, List, [], ◌∷◌, Option, Some, None, length, flat_map, IsSome}
use Rattle.wit_moves.specs.Passed.wit_order-Order.{Has}
use Rattle.wit_moves.specs.Passed.wit_types-declared-package-AstItem.{AstItem}
use Rattle.wit_moves.specs.Passed.wit_types-declared-package-AstItem-TheVariants.{Interface, World}
use Rattle.wit_moves.specs.Moved.{Places, place_of, is_placed}

-- the number of an interface, and of a world
abbrev pub interface_number : AstItem → Option ℕ
interface_number (Interface i) = Some i
interface_number (World i) = None

abbrev pub world_number : AstItem → Option ℕ
world_number (World i) = Some i
world_number (Interface i) = None

-- what is found of interfaces, by their numbers
abbrev pub interface_pair : AstItem × AstItem → List (ℕ × ℕ)
interface_pair (Interface i, Interface j) = (i, j) ∷ []
interface_pair (Interface i, World j) = []
interface_pair (World i, Interface j) = []
interface_pair (World i, World j) = []

abbrev pub interface_pairs : List (AstItem × AstItem) → List (ℕ × ℕ)
interface_pairs found = flat_map interface_pair found

-- and of worlds
abbrev pub world_pair : AstItem × AstItem → List (ℕ × ℕ)
world_pair (World i, World j) = (i, j) ∷ []
world_pair (World i, Interface j) = []
world_pair (Interface i, World j) = []
world_pair (Interface i, Interface j) = []

abbrev pub world_pairs : List (AstItem × AstItem) → List (ℕ × ℕ)
world_pairs found = flat_map world_pair found

-- a table of pairs by what stands in front
pub record AreKnown (pairs : List (ℕ × ℕ)) (known : ℕ → Option ℕ) : Type 0 where
  pub sound : (i j : ℕ) → known i ≡ Some j → Has pairs (i, j)
  pub complete : (i j : ℕ) → Has pairs (i, j) → IsSome (known i)

-- so many places, each as the table says
pub record ArePlacedBy (known : ℕ → Option ℕ) (so_many : ℕ) (places : Places) : Type 0 where
  pub all : length places ≡ so_many
  pub each : (i : ℕ) → i < so_many → place_of places i ≡ known i

-- so many places: each that is found stands there, and no other stands anywhere
pub record ArePlaced (pairs : List (ℕ × ℕ)) (so_many : ℕ) (places : Places) : Type 0 where
  pub all : length places ≡ so_many
  pub sound : (i j : ℕ) → place_of places i ≡ Some j → Has pairs (i, j)
  pub complete : (i j : ℕ) → Has pairs (i, j) → i < so_many → is_placed places i ≡ true
