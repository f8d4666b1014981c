use Rattle.std.proofs.Common.{◌≡◌, ◌<◌, get_or, length, subst, ap, arith}
use Rattle.component_builder.specs.Pieces.{piece_bytes}
use Rattle.component_builder.proofs.Parts.{so_far_fits}
use Rattle.component_builder.proofs.pieces.Pieces.length.Goals as goal

pub returns-in_err-total-clause-fits : goal.returns-in_err-total-clause-fits
returns-in_err-total-clause-fits c = λ small.
    let ps = c.args.self.now.done.items in
    let i = c.loop-piece.piece-index in
    let p = c.piece-item.result in
    let whole = c.deref-piece-items.ensures.value in
    let here : i < length ps = subst (λ l. i < length l) whole c.loop-piece-test.true in
    let is : p ≡ get_or ps i p = subst (λ l. p ≡ get_or l i p) whole c.piece-item.is in
    let fits = so_far_fits piece_bytes ps c.args.self.now.open.items i p here is in
    absurd (c.in_err-total.ensures (omega (arith, fits, c.loop-piece.invariant, ap length c.bytes.ensures, small)))
