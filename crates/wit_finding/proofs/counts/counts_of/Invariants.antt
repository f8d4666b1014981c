use Rattle.std.proofs.Common.{◌≡◌, map}
use Rattle.wit_finding.specs.Foreign as spec
use Rattle.wit_finding.proofs.counts.counts_of.Given as goal

abbrev pub invariant-loop-items : goal.invariant-loop-items
invariant-loop-items g l =
    spec.with_deps l.counts (map (λ d. d.entries) l.items-iterator) ≡ spec.with_deps (record { interfaces = 0; worlds = 0 }) (map (λ d. d.entries) (map (λ e. e.1) l.deps.entries))
