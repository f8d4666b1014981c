use Rattle.std.proofs.Common.{◌≡◌, map}
use Rattle.wit_finding.specs.Foreign as spec
use Rattle.wit_finding.proofs.counts.with_items.Given as goal

abbrev pub invariant-loop-asked : goal.invariant-loop-asked
invariant-loop-asked l = spec.with_items l.counts l.asked-iterator ≡ spec.with_items l.fn.counts (map (λ e. e.1) l.items.entries)
