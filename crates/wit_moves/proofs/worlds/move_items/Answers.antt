use Rattle.std.proofs.Common.{rules}
use Rattle.wit_moves.specs.Moved.{to}
use Rattle.wit_moves.specs.Worlds.{item_stays, IsMovedItem}
use Rattle.wit_moves.proofs.Retaining.{kept_from}
use Rattle.wit_moves.proofs.worlds.move_items.Goals as goal

pub returns : goal.returns
returns c = kept_from _ (item_stays c.args.features.now c.args.places.now) (IsMovedItem (to c.args.places.now) (to c.args.interfaces.now)) _ (λ k v b w g call. search rules) _ _ c.retain.ensures.filtered
