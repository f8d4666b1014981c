use Rattle.std.proofs.Common.{◌≡◌, ◌+◌, ◌*◌}
use Rattle.wit_pages.proofs.types.+spelled.Given as goal

abbrev pub decreases-spelled : goal.decreases-spelled
decreases-spelled l = 4 * l.fuel

abbrev pub decreases-spelled_part : goal.decreases-spelled_part
decreases-spelled_part l = 4 * l.fuel + 1

abbrev pub decreases-spelled_parts : goal.decreases-spelled_parts
decreases-spelled_parts l = 4 * l.fuel + 2

abbrev pub invariant-spelled_parts-loop-index : goal.invariant-spelled_parts-loop-index
invariant-spelled_parts-loop-index l = l.fuel ≡ l.initial.fuel
