use Rattle.std.proofs.Common.{map, drop}
use Rattle.binary_grammar.specs.Syntax.{bytes, IsTyped}
use Rattle.component_entries.specs.Runs as spec
use Rattle.component_entries.proofs.Neighbours.{Left}
use Rattle.component_entries.proofs.runs.put_run.Given as goal

abbrev pub invariant-loop-item : goal.invariant-loop-item
invariant-loop-item g l =
    Left (bytes (g.T.Grouped.item l.byte)) (IsTyped (g.T.Grouped.item l.byte)) (spec.run_of g.T.Grouped.section g.T.Grouped.alone l.byte (map g.T.Grouped.value l.items))
    (spec.run_of g.T.Grouped.section g.T.Grouped.alone l.byte (map g.T.Grouped.value (drop l.item-index l.items))) l.initial.out.items l.out.items
