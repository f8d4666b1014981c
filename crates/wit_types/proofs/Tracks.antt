use Rattle.std.proofs.Common.{◌≡◌, ℕ, zero, suc, List, [], ◌∷◌, ◌++◌, refl, append_assoc, arith}
use Rattle.std.proofs.lemmas.Fmt.{decimal_digit}
use Rattle.std.proofs.lemmas.List.{append-nil}
use Rattle.std.specs.Fmt.{decimal}
use Rattle.semver.specs.Identifiers.{parts_text, marked}
use Rattle.wit_types.specs.Track.{Parts, release_text, track_parts, track_text, IsFront, TracksAreTheirOwn}

zero_text : decimal 0 ≡ 48 ∷ []
zero_text = decimal_digit 0 (omega arith)

-- a release begins with its track
release_front : (x y z : ℕ) (build : List ℕ) → IsFront (parts_text (x, y, z, [], build)) (release_text x y z)
release_front (suc x) y z build = (46 ∷ (decimal y ++ (46 ∷ (decimal z ++ marked 43 build))), refl)
release_front zero (suc y) z build = (46 ∷ (decimal z ++ marked 43 build), rw zero_text refl)
release_front zero zero z build = (marked 43 build, rw zero_text refl)

pub track_front : (p : Parts) → IsFront (parts_text p) (track_text p)
track_front (x, y, z, [], build) = release_front x y z build
track_front (x, y, z, (c ∷ pre), build) = (marked 43 build, simp (append_assoc, append-nil))

own_parts : (p : Parts) → track_parts (track_parts p) ≡ track_parts p
own_parts (zero, zero, z, [], build) = refl
own_parts (zero, suc y, z, [], build) = refl
own_parts (suc x, y, z, [], build) = refl
own_parts (x, y, z, (c ∷ pre), build) = refl

own_text : (p : Parts) → track_text (track_parts p) ≡ track_text p
own_text (zero, zero, z, [], build) = refl
own_text (zero, suc y, z, [], build) = refl
own_text (suc x, y, z, [], build) = refl
own_text (x, y, z, (c ∷ pre), build) = refl

pub tracks_are_their_own : TracksAreTheirOwn
tracks_are_their_own = record { parts = own_parts; text = own_text }
