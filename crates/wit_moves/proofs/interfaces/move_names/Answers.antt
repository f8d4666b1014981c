use Rattle.std.proofs.Common.{◌≡◌, ℕ, rules}
use Rattle.wit_moves.specs.Moved.{is_placed, to}
use Rattle.wit_moves.proofs.Retaining.{kept_from}
use Rattle.wit_moves.proofs.interfaces.move_names.Goals as goal

pub returns : goal.returns
returns c = kept_from _ (is_placed c.args.places.now) (λ (i j : ℕ). j ≡ to c.args.places.now i) _ (λ k v b w g call. search rules) _ _ c.retain.ensures.filtered
