use Rattle.std.proofs.Common.{◌≡◌, ◌-◌, ℕ, List}
use Rattle.std.specs.Prelude.{map}
use Rattle.std.specs.List.{All}
use Rattle.binary_grammar.specs.Format.{onto}
use Rattle.binary_grammar.specs.Place.{Within}
use Rattle.binary_grammar.specs.Several.{grown}
use Rattle.binary_grammar.specs.Syntax.{meaning, times}
use Rattle.binary_grammar.proofs.steps.several_of.Given as goal

abbrev pub invariant-loop : goal.invariant-loop
invariant-loop g l = record {
  so_far : onto (map g.T.Step.value l.items.items) ((meaning (times g.T.Step.grow (g.T.Step.next l.kind) (l.count - l.counter)) (g.T.Step.known l.state)).read l.from.left)
      ≡ (meaning (times g.T.Step.grow (g.T.Step.next l.kind) l.count) (g.T.Step.known l.initial.state)).read l.initial.from.left;
  known : g.T.Step.known l.state ≡ grown g.T.Step.grow (g.T.Step.known l.initial.state) (map g.T.Step.value l.items.items);
  within : (total : List ℕ) → Within total l.initial.from → Within total l.from;
  stands : (total : List ℕ) → Within total l.initial.from → All (g.T.Step.stands total) l.items.items;
  end : l.from.end ≡ l.initial.from.end;
}
