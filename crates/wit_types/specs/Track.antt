-- The tracks of versions (Component Model, Import and Export Definitions).
use Rattle.std.specs.Prelude.{◌≡◌, ◌≢◌, ℕ, zero, suc, List, [], ◌∷◌, ◌++◌, Option, Some, None, String, codes, string_bytes}
use Rattle.std.specs.Fmt.{decimal}
use Rattle.std.specs.declared.alloc.Global.{Global}
use Rattle.semver.specs.Identifiers.{parts_text}

-- the three numbers of a version, its pre-release and its build text
abbrev pub Parts : Type 0
Parts = ℕ × ℕ × ℕ × List ℕ × List ℕ

-- of the numbers of a release the first that isn't 0 and those before it, or all
abbrev pub release_track : ℕ → ℕ → ℕ → ℕ × ℕ × ℕ
release_track (suc x) y z = (suc x, 0, 0)
release_track zero (suc y) z = (0, suc y, 0)
release_track zero zero z = (0, 0, z)

-- the track as the parts of a version: a pre-release is its own, less its build text
abbrev pub track_parts : Parts → Parts
track_parts (x, y, z, [], build) = let r = release_track x y z in (r.0, r.1, r.2, [], [])
track_parts (x, y, z, (c ∷ pre), build) = (x, y, z, (c ∷ pre), [])

-- the text of a release's track
abbrev pub release_text : ℕ → ℕ → ℕ → List ℕ
release_text (suc x) y z = decimal (suc x)
release_text zero (suc y) z = codes "0." ++ decimal (suc y)
release_text zero zero z = codes "0.0." ++ decimal z

abbrev pub track_text : Parts → List ℕ
track_text (x, y, z, [], build) = release_text x y z
track_text (x, y, z, (c ∷ pre), build) = parts_text (x, y, z, (c ∷ pre), [])

-- one text begins with the other
abbrev pub IsFront : List ℕ → List ℕ → Type 0
IsFront text front = (behind : List ℕ) × (text ≡ front ++ behind)

-- what stands behind the front, where something does
abbrev pub IsSuffix : List ℕ → List ℕ → Option (String Global) → Type 0
IsSuffix text front None = text ≡ front
IsSuffix text front (Some s) = (string_bytes s ≢ []) × (text ≡ front ++ string_bytes s)

-- a track is its own track
pub record TracksAreTheirOwn : Type 0 where
  pub parts : (p : Parts) → track_parts (track_parts p) ≡ track_parts p
  pub text : (p : Parts) → track_text (track_parts p) ≡ track_text p
