-- Why a text isn't taken as an identifier.
use Rattle.std.specs.Prelude.{◌≡◌, ℕ, ◌^◌, ◌≤◌, List, length}
use Rattle.wit_words.specs.declared.fault.Rule.TheVariants as rules
use Rattle.wit_words.specs.declared.fault.SyntaxFault.{SyntaxFault}
use Rattle.wit_words.specs.declared.fault.SyntaxFault.TheVariants as faults
use Rattle.wit_words.specs.Identifier.{IsIdentifier}

-- no span says so long a text, or the whole of it is no identifier
abbrev pub IsIdFault : List ℕ → SyntaxFault → Type 0
IsIdFault text faults.TooLarge = 2 ^ 32 ≤ length text
IsIdFault text (faults.Broken rules.BadIdentifier span) = (IsIdentifier text → ⊥) × (span ≡ record { start = 0; end = length text })
IsIdFault text _ = ⊥
