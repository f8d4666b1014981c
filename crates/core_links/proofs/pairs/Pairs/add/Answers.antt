use Rattle.core_links.proofs.Paired.{added_from}
use Rattle.core_links.proofs.pairs.Pairs.add.Goals as goal

pub returns-clause-ok : goal.returns-clause-ok
returns-clause-ok c = added_from c.args.self.now c.self.inside.inner.keys c.insert.new.self.keys (c.args.first, c.args.second) c.self.view_is c.requires c.in_ok-insert.ensures.keys
