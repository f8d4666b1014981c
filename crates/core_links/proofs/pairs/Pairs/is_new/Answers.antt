use Rattle.core_links.proofs.Paired.{is_new_from}
use Rattle.core_links.proofs.pairs.Pairs.is_new.Goals as goal

pub returns : goal.returns
returns c = is_new_from c.args.self.now c.self.inside.inner.keys (c.args.first.now, c.args.second.now) c.contains.result c.self.view_is c.contains.ensures
