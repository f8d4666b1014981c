-- The codes and names of the rules that texts break, which are part of what is printed of a refusal.
use Rattle.std.specs.Prelude.{ℕ, List, codes}
use Rattle.wit_words.specs.declared.fault.Rule.{Rule}
use Rattle.wit_words.specs.declared.fault.Rule.TheVariants.{BadCharacter, OpenComment, BadIdentifier, Unexpected, BadVersion, BadNumber, TooDeep}

abbrev pub code : Rule → List ℕ
code BadCharacter = codes "S1"
code OpenComment = codes "S2"
code BadIdentifier = codes "S4"
code Unexpected = codes "S3"
code BadVersion = codes "S5"
code BadNumber = codes "S6"
code TooDeep = codes "S7"

abbrev pub name : Rule → List ℕ
name BadCharacter = codes "BadCharacter"
name OpenComment = codes "OpenComment"
name BadIdentifier = codes "BadIdentifier"
name Unexpected = codes "Unexpected"
name BadVersion = codes "BadVersion"
name BadNumber = codes "BadNumber"
name TooDeep = codes "TooDeep"
