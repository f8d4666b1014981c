-- Lists that correspond one by one, and lists whose members stand apart.
use Rattle.std.specs.Prelude.{◌≡◌, ℕ, List, [], ◌∷◌, Some, slice_get}

-- as many in each, and each is to the one at its place what it has to be
abbrev pub Each : {X Y : Type 0} → (X → Y → Type 0) → List X → List Y → Type 0
Each Is [] [] = Unit {0}
Each Is [] (y ∷ ys) = ⊥
Each Is (x ∷ xs) [] = ⊥
Each Is (x ∷ xs) (y ∷ ys) = Is x y × Each Is xs ys

-- no two of them have one key
abbrev pub AreApartBy : {X K : Type 0} → (X → K) → List X → Type 0
AreApartBy {X} key xs = (i j : ℕ) (x y : X) → slice_get xs i ≡ Some x → slice_get xs j ≡ Some y → key x ≡ key y → i ≡ j
