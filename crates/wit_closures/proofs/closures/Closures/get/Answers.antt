use Rattle.std.proofs.Common.{◌≡◌, ℕ, Some, subst}
use Rattle.std.specs.Prelude.{slice_get}
use Rattle.wit_closures.proofs.closures.Closures.get.Goals as goal

pub returns-clause-closed : goal.returns-clause-closed
returns-clause-closed c = c.self.invariant c.args.id c.get.result.now (subst (λ (k : ℕ). slice_get c.self.inside.lists k ≡ Some c.get.result.now) c.index.ensures c.get.ensures)
