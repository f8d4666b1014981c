use Rattle.std.proofs.Common.{length}
use Rattle.wit_closures.proofs.Parting.{taken_view, taken_within}
use Rattle.wit_closures.proofs.lists.Lists.truncate.Goals as goal

pub invariant_of-self : goal.invariant_of-self
invariant_of-self c = taken_within (length c.self.inside.items.items) c.args.len c.self.inside.ranges.items c.truncate.new.self.items c.truncate.ensures.items c.self.invariant

pub returns : goal.returns
returns c = taken_view c.self.inside.items.items c.args.len c.self.inside.ranges.items c.truncate.new.self.items c.args.self.now c.truncate.ensures.items c.self.view_is
