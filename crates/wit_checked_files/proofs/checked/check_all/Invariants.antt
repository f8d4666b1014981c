use Rattle.wit_rules.proofs.Breaking.{AreKept}
use Rattle.wit_checked_files.proofs.checked.check_all.Given as goal

abbrev pub invariant-loop-item : goal.invariant-loop-item
invariant-loop-item g l = AreKept g.T.Checked.breaks l.items l.item-index
