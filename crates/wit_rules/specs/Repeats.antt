-- Keys that stand again in a list.
use Rattle.std.specs.Prelude.{◌≡◌, ℕ, ◌<◌, Bool, true, List, Some, take, slice_get}
use Rattle.std.specs.List.{list_any}

-- the key at that place is among those before it
pub record IsRepeat {K : Type 0} (eq : K → K → Bool) (keys : List K) (place : ℕ) : Type 0 where
  pub key : K
  pub there : slice_get keys place ≡ Some key
  pub again : list_any (eq key) (take place keys) ≡ true

-- and no key in front of it is
pub record IsFirstRepeat {K : Type 0} (eq : K → K → Bool) (keys : List K) (place : ℕ) : Type 0 where
  pub repeat : IsRepeat eq keys place
  pub first : (earlier : ℕ) → earlier < place → IsRepeat eq keys earlier → ⊥

-- no key is among those before it
abbrev pub AreDistinct : {K : Type 0} → (K → K → Bool) → List K → Type 0
AreDistinct eq keys = (place : ℕ) → IsRepeat eq keys place → ⊥
