-- Identifiers (WIT, Identifiers): words joined by hyphens. Each word is one or more letters and digits, with its letters
-- of one case; the first word begins with a letter.
use Rattle.std.specs.Prelude.{◌≡◌, ℕ, ◌≤◌, ◌⊎◌, List, [], ◌∷◌, ◌++◌, length, Option, Some, None, Bool, true, false, ◌||◌, ◌==◌, if◌then◌else◌}
use Rattle.std.specs.Char.{is_ascii_digit, is_ascii_lowercase, is_ascii_uppercase}
use Rattle.std.specs.List.{AllByRecursion as Each, list_all}
use Rattle.wit_words.specs.declared.identifier.Part.{Part}
use Rattle.wit_words.specs.declared.identifier.Part.TheVariants.{Start, Hyphen, Digits, Small, Capital}

-- a byte of a word with small letters
abbrev pub is_small : ℕ → Bool
is_small b = is_ascii_digit b || is_ascii_lowercase b

-- and of one with capital letters
abbrev pub is_capital : ℕ → Bool
is_capital b = is_ascii_digit b || is_ascii_uppercase b

-- letters are of one case
abbrev pub HasOneCase : List ℕ → Type 0
HasOneCase word = (list_all is_small word ≡ true) ⊎ (list_all is_capital word ≡ true)

abbrev pub IsWord : List ℕ → Type 0
IsWord word = (1 ≤ length word) × HasOneCase word

abbrev pub BeginsWithLetter : List ℕ → Type 0
BeginsWithLetter [] = ⊥
BeginsWithLetter (b ∷ word) = (is_ascii_lowercase b || is_ascii_uppercase b) ≡ true

-- words with hyphens between them; 45 is `-`
abbrev pub joined : List ℕ → List (List ℕ) → List ℕ
joined word [] = word
joined word (next ∷ more) = word ++ 45 ∷ joined next more

pub record IsIdentifier (text : List ℕ) : Type 0 where
  pub first : List ℕ
  pub more : List (List ℕ)
  pub parts : text ≡ joined first more
  pub begins : BeginsWithLetter first
  pub word : IsWord first
  pub each : Each IsWord more

-- ---- the same, byte by byte

-- the first letter of a word
abbrev pub letter : ℕ → Option Part
letter b = if is_ascii_lowercase b then Some Small else if is_ascii_uppercase b then Some Capital else None

-- one more byte of an identifier: the first word begins with a letter, each later one with a letter or a digit, and the letters of a word have one case
abbrev pub next : Part → ℕ → Option Part
next Start b = letter b
next Hyphen b = if is_ascii_digit b then Some Digits else letter b
next Digits b = if b == 45 then Some Hyphen else if is_ascii_digit b then Some Digits else letter b
next Small b = if b == 45 then Some Hyphen else if is_ascii_digit b || is_ascii_lowercase b then Some Small else None
next Capital b = if b == 45 then Some Hyphen else if is_ascii_digit b || is_ascii_uppercase b then Some Capital else None

-- an identifier ends behind a word
abbrev pub ends : Part → Bool
ends Start = false
ends Hyphen = false
ends Digits = true
ends Small = true
ends Capital = true

abbrev pub and_then : Option Part → (Part → Bool) → Bool
and_then None test = false
and_then (Some part) test = test part

-- the bytes go on with an identifier of which this much was read
abbrev pub goes_on : Part → List ℕ → Bool
goes_on part [] = ends part
goes_on part (b ∷ z) = and_then (next part b) (λ after. goes_on after z)

unfoldable pub is_identifier : List ℕ → Bool
is_identifier = goes_on Start
