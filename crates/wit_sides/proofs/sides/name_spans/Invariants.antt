use Rattle.std.proofs.Common.{◌≡◌, ◌++◌, map}
use Rattle.std.proofs.Math.ListN.{drop}
use Rattle.wit_words.specs.Slice.{Slice}
use Rattle.wit_sides.specs.Sides as spec
use Rattle.wit_sides.proofs.sides.name_spans.Given as goal

abbrev pub invariant-loop-entry : goal.invariant-loop-entry
invariant-loop-entry l = l.spans.items ++ map (λ (n : Slice). n.span) (spec.plain_names (drop l.entry-index l.entries)) ≡ map (λ (n : Slice). n.span) (spec.plain_names l.entries)
