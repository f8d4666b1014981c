use Rattle.std.proofs.Common.{◌≡◌, ◌-◌}
use Rattle.std.specs.Prelude.{map}
use Rattle.binary_grammar.specs.Format.{onto}
use Rattle.binary_grammar.specs.Syntax.{meaning, times}
use Rattle.binary_grammar.proofs.part.items_of.Given as goal

abbrev pub invariant-loop : goal.invariant-loop
invariant-loop g l = record {
  so_far : onto (map g.T.Part.value l.items.items) ((meaning (times (λ c _. c) g.T.Part.syntax (l.count - l.counter)) (g.T.Part.known l.there)).read l.from.left) ≡ (meaning (times (λ c _. c) g.T.Part.syntax l.count) (g.T.Part.known l.there)).read l.initial.from.left;
  end : l.from.end ≡ l.initial.from.end;
}
