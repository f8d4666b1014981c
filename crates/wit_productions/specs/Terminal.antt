-- Tokens that the grammar takes by what they say.
use Rattle.std.specs.Prelude.{ℕ, List, if◌then◌else◌, Result, Ok, Err, is_ok, bytes_eq}
use Rattle.semver.specs.Parse.{version_parts}
use Rattle.wit_tokens.specs.Passed.wit_words-declared-fault-Rule.{Rule}
use Rattle.wit_tokens.specs.Passed.wit_words-declared-fault-Rule-TheVariants as rules
use Rattle.wit_productions.specs.Production.{Production, one, slice}
use Rattle.wit_tokens.specs.Passed.wit_words-Slice.{Slice}
use Rattle.wit_tokens.specs.Passed.wit_words-Token.{What, version as version_token, ident, explicit}

abbrev pub id_in : What → Result (List ℕ) Rule
id_in (ident s) = Ok s
id_in (explicit s) = Ok s
id_in _ = Err rules.Unexpected

-- an identifier (WIT, Identifiers)
unfoldable pub id : Production Slice
id = slice id_in

-- a version that `semver` reads
abbrev pub version_in : What → Result (List ℕ) Rule
version_in (version_token s) = if is_ok (version_parts s) then Ok s else Err rules.BadVersion
version_in _ = Err rules.BadVersion

-- a version of SemVer 2.0
unfoldable pub version : Production Slice
version = slice version_in

abbrev pub word_in : List ℕ → What → Result (Unit {0}) Rule
word_in word (ident s) = if bytes_eq s word then Ok tt else Err rules.Unexpected
word_in word _ = Err rules.Unexpected

-- a word that is no keyword, and has no `%` in front of it
unfoldable pub word : List ℕ → Production (Unit {0})
word w = one (word_in w)
