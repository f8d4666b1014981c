use Rattle.wit_closures.proofs.Next.{closed_taken}
use Rattle.wit_closures.proofs.closures.Closures.truncate.Goals as goal

pub invariant_of-self : goal.invariant_of-self
invariant_of-self c = closed_taken c.self.inside.lists c.truncate.new.self c.args.len c.self.invariant c.truncate.ensures
