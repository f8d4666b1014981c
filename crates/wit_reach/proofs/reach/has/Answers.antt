use Rattle.wit_reach.proofs.Lists.{any_has, has_any}
use Rattle.wit_reach.proofs.reach.has.Goals as goal

pub returns : goal.returns
returns c = rw (c.contains.ensures, c.index.ensures) (any_has c.args.set.now.keys c.args.interface, has_any c.args.set.now.keys c.args.interface)
