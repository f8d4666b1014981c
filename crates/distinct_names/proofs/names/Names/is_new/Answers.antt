use Rattle.distinct_names.proofs.Lists.{is_new_from}
use Rattle.distinct_names.proofs.names.Names.is_new.Goals as goal

pub returns : goal.returns
returns c = is_new_from c.args.self.now c.self.inside.inner.keys c.args.name.now c.contains.result c.self.view_is c.contains.ensures
