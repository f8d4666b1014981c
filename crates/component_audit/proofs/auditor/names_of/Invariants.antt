use Rattle.std.proofs.Common.{◌≡◌, map, take}
use Rattle.component_audit.proofs.auditor.names_of.Given as goal

abbrev pub invariant-loop-entry : goal.invariant-loop-entry
invariant-loop-entry l = l.names ≡ map (λ e. e.name.now) (take l.entry-index l.entries)
