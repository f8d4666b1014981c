use Rattle.std.proofs.Common.{take}
use Rattle.wit_rules.specs.Passed.wit_scopes-View as scope_view
use Rattle.wit_package_types.specs.Fill.{Fills}
use Rattle.wit_package_types.proofs.fill.fill_types.Given as goal

abbrev pub invariant-loop-member : goal.invariant-loop-member
invariant-loop-member l = Fills l.known l.owner l.fn.types (take l.member-index (scope_view.members l.members)) l.types l.table
