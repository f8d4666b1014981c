use Rattle.wit_rules.proofs.Breaking.{AreKept}
use Rattle.wit_package.proofs.Naming.{need_breaks}
use Rattle.wit_package.proofs.versions.check_needs.Given as goal

abbrev pub invariant-loop-need : goal.invariant-loop-need
invariant-loop-need l = AreKept need_breaks l.needs l.need-index
