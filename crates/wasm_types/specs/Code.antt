-- Values that a byte stands for.
use Rattle.std.specs.Prelude.{ℕ, Result}
use Rattle.binary_grammar.specs.declared.fault.Rule.{Rule}
use Rattle.binary_grammar.specs.Format.{Format, byte}
use Rattle.binary_grammar.specs.Judged.{weigh}
use Rattle.binary_grammar.specs.Syntax.{Syntax, unbounded, one_byte, judged}

-- a byte, by what it stands for; a rule is broken where it stands
abbrev pub coded : {C X : Type 0} → (ℕ → Result X Rule) → (X → ℕ) → Syntax unbounded C X
coded of code = judged (λ _ b. of b) code one_byte

abbrev pub coded_format : {X : Type 0} → (ℕ → Result X Rule) → Format X
coded_format of = weigh (λ _ b. of b) byte
