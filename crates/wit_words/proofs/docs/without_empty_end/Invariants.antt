use Rattle.std.proofs.Common.{◌≡◌, ◌≤◌, map, take, length}
use Rattle.wit_words.specs.Docs.{without_empty_end}
use Rattle.wit_words.proofs.docs.without_empty_end.Given as goal

abbrev pub invariant-loop-end : goal.invariant-loop-end
invariant-loop-end l = (l.«end» ≤ length l.lines) × (without_empty_end (map (λ line. line.now) l.lines) ≡ without_empty_end (map (λ line. line.now) (take l.«end» l.lines)))

abbrev pub decreases-loop-end : goal.decreases-loop-end
decreases-loop-end l = l.«end»
