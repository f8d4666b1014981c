use Rattle.std.proofs.Common.{◌≡◌, map, length}
use Rattle.std.specs.Prelude.{◌==◌}
use Rattle.binary_grammar.specs.Format as format
use Rattle.binary_grammar.specs.Several.{unless}
use Rattle.binary_grammar.specs.Syntax.{meaning, up_to}
use Rattle.binary_grammar.proofs.Remaining.{Awaits}
use Rattle.binary_grammar.proofs.steps.up_to_of.Given as goal

abbrev pub invariant-loop-items : goal.invariant-loop-items
invariant-loop-items g l = record {
  awaits : Awaits (format.◌>>=◌ format.byte (λ b. unless (b == l.last) (meaning (g.T.Instruction.next b) (g.T.Instruction.known l.there)))).read l.from.left (map g.T.Instruction.value l.items.items)
      ((meaning (up_to l.last g.T.Instruction.which g.T.Instruction.next) (g.T.Instruction.known l.there)).read l.initial.from.left);
  end : l.from.end ≡ l.initial.from.end;
}

abbrev pub decreases-loop-items : goal.decreases-loop-items
decreases-loop-items g l = length l.from.left
