use Rattle.wit_foreign.proofs.Grouping.{joined}
use Rattle.wit_foreign.proofs.groups.join.Goals as goal

pub returns : goal.returns
returns c = joined c.args.rows.now.items c.args.place c.index_mut.result.now c.push.new.self c.args.need c.requires c.index_mut.ensures.value c.in_ok-push.ensures.items
