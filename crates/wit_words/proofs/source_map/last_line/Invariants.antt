use Rattle.std.proofs.Common.{◌≡◌, ◌≤◌, drop, true, length}
use Rattle.std.specs.Prelude.{not}
use Rattle.std.specs.List.{list_all}
use Rattle.wit_words.specs.Sources.{is_line_feed}
use Rattle.wit_words.proofs.source_map.last_line.Given as goal

abbrev pub invariant-loop-at : goal.invariant-loop-at
invariant-loop-at l = (list_all (λ b. not (is_line_feed b)) (drop l.at l.front) ≡ true) × (l.at ≤ length l.front)

abbrev pub decreases-loop-at : goal.decreases-loop-at
decreases-loop-at l = l.at
