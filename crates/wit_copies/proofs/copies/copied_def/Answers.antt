use Rattle.wit_copies.proofs.Clones.{same_def}
use Rattle.wit_copies.proofs.copies.copied_def.Goals as goal

pub returns : goal.returns
returns c = (c.in_ok-clone.clone, same_def c.args.def.now c.in_ok-clone.clone c.in_ok-clone.ensures.cases, rw (← c.copied_owner.ensures) c.moved_def.ensures)
