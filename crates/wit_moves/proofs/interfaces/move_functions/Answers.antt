use Rattle.std.proofs.Common.{rules}
use Rattle.wit_moves.specs.Moved.{to, IsMovedFunction}
use Rattle.wit_moves.specs.Interfaces.{function_stays}
use Rattle.wit_moves.proofs.Retaining.{kept_from}
use Rattle.wit_moves.proofs.interfaces.move_functions.Goals as goal

pub returns : goal.returns
returns c = kept_from _ (function_stays c.args.features.now c.args.places.now) (IsMovedFunction (to c.args.places.now)) _ (λ k v b w g call. search rules) _ _ c.retain.ensures.filtered
