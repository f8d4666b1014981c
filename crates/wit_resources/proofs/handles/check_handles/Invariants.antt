use Rattle.wit_rules.specs.Passed.wit_syntax-AstView as view
use Rattle.wit_rules.proofs.Breaking.{AreKept}
use Rattle.wit_resources.specs.Failing.{HandleFails}
use Rattle.wit_resources.proofs.handles.check_handles.Given as goal

abbrev pub invariant-loop-name : goal.invariant-loop-name
invariant-loop-name l = AreKept (λ n. HandleFails l.natures l.table (view.id n)) l.name-items l.name-index
