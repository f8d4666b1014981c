-- The version at the front of a text: the longest that SemVer 2.0's grammar reads there.
use Rattle.std.specs.Prelude.{◌≡◌, ℕ, zero, ◌+◌, ◌-◌, ◌*◌, ◌^◌, ◌==◌, ◌||◌, Bool, true, false, nat_le, if◌then◌else◌, List, [], ◌∷◌, ◌++◌, Option, Some, None}
use Rattle.std.specs.Char.{is_ascii_digit, is_ascii_alphabetic}
use Rattle.semver.specs.Grammar.{is_pre_release, is_build}
use Rattle.semver.specs.Identifiers.{marked}
use Rattle.wit_words.specs.declared.version.Identifier.{Identifier}
use Rattle.wit_words.specs.declared.version.Identifier.TheVariants.{Empty, Zero, LeadingZero, Other}
use Rattle.wit_words.specs.declared.version.Number.{Number}
use Rattle.wit_words.specs.declared.version.Number.TheVariants.{Major, Minor, Patch}
use Rattle.wit_words.specs.declared.version.State.{State}
use Rattle.wit_words.specs.declared.version.State.TheVariants.{Before, Digits, Within}
use Rattle.wit_words.specs.declared.version.Tail.{Tail}
use Rattle.wit_words.specs.declared.version.Tail.TheVariants.{PreRelease, Build}

abbrev pub Text : Type 0
Text = List ℕ

-- a numeric identifier: a zero, or digits of which the first is none
abbrev pub AreDigits : Text → Type 0
AreDigits [] = Unit {0}
AreDigits (b ∷ x) = (is_ascii_digit b ≡ true) × AreDigits x

abbrev pub IsNumeric : Text → Type 0
IsNumeric [] = ⊥
IsNumeric (b ∷ x) = AreDigits (b ∷ x) × ((b ≡ 48) → x ≡ [])

-- A version of SemVer 2.0: three numbers, of any size, with dots between them, a `-` and a pre-release, a `+` and build metadata; the last
-- two may be left out, with their marks.
pub record IsVersion (x : Text) : Type 0 where
  pub major : Text
  pub minor : Text
  pub patch : Text
  pub pre : Text
  pub build : Text
  pub parts : x ≡ major ++ (46 ∷ (minor ++ (46 ∷ (patch ++ (marked 45 pre ++ marked 43 build)))))
  pub numbers : IsNumeric major × IsNumeric minor × IsNumeric patch
  pub pre_release : is_pre_release pre ≡ true
  pub metadata : is_build build ≡ true

-- x is a version, and no longer front of x ++ rest is one
pub record IsVersionFront (x rest : Text) : Type 0 where
  pub version : IsVersion x
  pub longest : (more behind : Text) → rest ≡ more ++ behind → IsVersion (x ++ more) → more ≡ []

-- no front is a version
abbrev pub HasNoVersion : Text → Type 0
HasNoVersion z = (x rest : Text) → z ≡ x ++ rest → IsVersion x → ⊥

-- ---- the same, byte by byte

-- the number with one more digit, if 64 bits are enough
abbrev pub longer : Option ℕ → ℕ → Option ℕ
longer None digit = None
longer (Some value) digit = if nat_le (2 ^ 64) (value * 10 + digit) then None else Some (value * 10 + digit)

-- a number goes on by this digit: a zero doesn't
abbrev pub digits : Number → Option ℕ → ℕ → Option State
digits number (Some zero) digit = None
digits number value digit = Some (Digits number (longer value digit))

-- what stands behind a number
abbrev pub behind : Number → ℕ → Option State
behind Major b = if b == 46 then Some (Before Minor) else None
behind Minor b = if b == 46 then Some (Before Patch) else None
behind Patch b = if b == 45 then Some (Within PreRelease Empty) else if b == 43 then Some (Within Build Empty) else None

abbrev pub with_digit : Identifier → ℕ → Identifier
with_digit Empty b = if b == 48 then Zero else Other
with_digit Zero b = LeadingZero
with_digit LeadingZero b = LeadingZero
with_digit Other b = Other

-- an identifier may end: it isn't empty and, in a pre-release, no number with a leading zero
abbrev pub may_end : Tail → Identifier → Bool
may_end tail Empty = false
may_end PreRelease LeadingZero = false
may_end tail _ = true

-- what stands behind an identifier
abbrev pub after : Tail → ℕ → Option State
after PreRelease b = if b == 46 then Some (Within PreRelease Empty) else if b == 43 then Some (Within Build Empty) else None
after Build b = if b == 46 then Some (Within Build Empty) else None

abbrev pub within : Tail → Identifier → ℕ → Option State
within tail identifier b =
    if is_ascii_alphabetic b || b == 45 then Some (Within tail Other)
    else if is_ascii_digit b then Some (Within tail (with_digit identifier b))
    else if may_end tail identifier then after tail b
    else None

abbrev pub step : State → ℕ → Option State
step (Before number) b = if is_ascii_digit b then Some (Digits number (Some (b - 48))) else None
step (Digits number value) b = if is_ascii_digit b then digits number value (b - 48) else behind number b
step (Within tail identifier) b = within tail identifier b

-- a version may end here
abbrev pub is_whole : State → Bool
is_whole (Before number) = false
is_whole (Digits Major value) = false
is_whole (Digits Minor value) = false
is_whole (Digits Patch value) = true
is_whole (Within tail identifier) = may_end tail identifier

-- a number of more than 64 bits was read last
abbrev pub is_past : State → Bool
is_past (Digits number None) = true
is_past _ = false

abbrev pub reads_on : Option State → (State → Bool) → Bool
reads_on None next = false
reads_on (Some state) next = if is_past state then false else next state

-- `semver` reads all of the text on from a state
abbrev pub reads : State → Text → Bool
reads state [] = is_whole state
reads state (b ∷ z) = reads_on (step state b) (λ next. reads next z)

abbrev pub one_more : Bool → Option ℕ → Option ℕ
one_more whole (Some n) = Some (n + 1)
one_more whole None = if whole then Some 1 else None

abbrev pub onward : Option State → (State → Option ℕ) → Option ℕ
onward None next = None
onward (Some state) next = one_more (is_whole state) (next state)

-- how many bytes, at least one, the text has up to the last place where a version may end
abbrev pub len_from : State → Text → Option ℕ
len_from state [] = None
len_from state (b ∷ z) = onward (step state b) (λ next. len_from next z)

-- the length of the longest front that is a version, if there is one
unfoldable pub version_len : Text → Option ℕ
version_len = len_from (Before Major)
