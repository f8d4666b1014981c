use Rattle.distinct_names.proofs.Lists.{added_from}
use Rattle.distinct_names.proofs.names.Names.add.Goals as goal

pub returns-clause-ok : goal.returns-clause-ok
returns-clause-ok c = added_from c.args.self.now c.self.inside.inner.keys c.insert.new.self.keys c.args.name c.self.view_is c.requires c.in_ok-insert.ensures.keys
