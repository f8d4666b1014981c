use Rattle.std.proofs.Common.{◌≡◌, ◌≤◌, ◌-◌, ◌++◌, ℕ, List, length}
use Rattle.wit_closures.specs.Closures.{AreReached}
use Rattle.wit_closures.proofs.closures.Closures.extend.Given as goal

abbrev pub invariant-loop-alloc : goal.invariant-loop-alloc
invariant-loop-alloc l = record {
  fewer : length l.self ≤ length l.rows;
  reached : AreReached l.rows l.self;
  grown : (more : List (List ℕ)) × (l.self ≡ l.fn.self ++ more);
}

abbrev pub decreases-loop-alloc : goal.decreases-loop-alloc
decreases-loop-alloc l = length l.rows - length l.self
