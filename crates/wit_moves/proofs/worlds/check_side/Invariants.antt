use Rattle.std.proofs.Common.{◌≡◌, ◌<◌, ℕ, true, false, Some}
use Rattle.std.specs.Prelude.{slice_get}
use Rattle.wit_features.specs.Passed.wit_types-declared-world-WorldItem.{WorldItem}
use Rattle.wit_features.specs.Passed.wit_types-declared-world_key-WorldKey.{WorldKey}
use Rattle.wit_moves.specs.Worlds.{item_stays, is_item_placed}
use Rattle.wit_moves.proofs.worlds.check_side.Given as goal

abbrev pub invariant-loop-place : goal.invariant-loop-place
invariant-loop-place l = (k : ℕ) (e : WorldKey × WorldItem) → k < l.place → slice_get l.side.entries k ≡ Some e → item_stays l.features l.places e.1 ≡ true → is_item_placed l.places l.interfaces e.1 ≡ false → ⊥
