use Rattle.wit_lookups.specs.Passed.wit_scopes-View as scope_view
use Rattle.wit_lookups.proofs.Loops.{AreKeptTo}
use Rattle.wit_resolved_scopes.specs.Faults.{MemberFails}
use Rattle.wit_resolved_scopes.proofs.checks.check_members.Given as goal

abbrev pub invariant-loop-member : goal.invariant-loop-member
invariant-loop-member l = AreKeptTo (λ m. MemberFails l.natures l.table (scope_view.members l.types) m.kind) scope_view.member l.members l.member-index
