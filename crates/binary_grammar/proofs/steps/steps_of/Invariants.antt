use Rattle.std.proofs.Common.{ℕ, List, length}
use Rattle.std.specs.Prelude.{map}
use Rattle.std.specs.List.{All}
use Rattle.binary_grammar.specs.Format as format
use Rattle.binary_grammar.specs.Place.{Within}
use Rattle.binary_grammar.specs.Syntax.{meaning, steps}
use Rattle.binary_grammar.proofs.Remaining.{Remains}
use Rattle.binary_grammar.proofs.steps.steps_of.Given as goal

abbrev pub invariant-loop-from : goal.invariant-loop-from
invariant-loop-from g l = record {
  remains : Remains (λ t. (format.◌>>=◌ format.byte (λ b. meaning (g.T.Step.next b) t)).read) g.T.Step.grow (g.T.Step.known l.state) l.from.left (map g.T.Step.value l.items.items)
      ((meaning (steps g.T.Step.grow g.T.Step.which g.T.Step.next) (g.T.Step.known l.initial.state)).read l.initial.from.left);
  within : (total : List ℕ) → Within total l.initial.from → Within total l.from;
  stands : (total : List ℕ) → Within total l.initial.from → All (g.T.Step.stands total) l.items.items;
}

abbrev pub decreases-loop-from : goal.decreases-loop-from
decreases-loop-from g l = length l.from.left
