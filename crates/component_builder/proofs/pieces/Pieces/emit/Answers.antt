use Rattle.std.proofs.Common.{◌≡◌, ◌<◌, ◌≤◌, ◌+◌, ◌-◌, ◌++◌, take, get_or, length, subst, ap, sym, ◌∙◌, arith}
use Rattle.std.specs.List.{flat_map}
use Rattle.std.specs.Io.KnownBytes.{Appends}
use Rattle.std.proofs.KnownBytes.{Appends-trans}
use Rattle.std.proofs.lemmas.List.{take_all, length-append}
use Rattle.std.proofs.lemmas.Result.{err_from_is_err_and}
use Rattle.component_builder.specs.Pieces.{piece_bytes}
use Rattle.component_builder.proofs.Parts.{part_fits, part_begins, end_begins}
use Rattle.component_builder.proofs.pieces.Pieces.emit.Goals as goal

pub emit_behind-requires : goal.emit_behind-requires
emit_behind-requires g c =
    let ps = c.args.self.now.done.items in
    let i = c.loop-piece.piece-index in
    let p = c.piece-item.result in
    let whole = c.deref-piece-items.ensures.value in
    let here : i < length ps = subst (λ l. i < length l) whole c.loop-piece-test.true in
    let is : p ≡ get_or ps i p = subst (λ l. p ≡ get_or l i p) whole c.piece-item.is in
    let fits = part_fits piece_bytes ps c.args.self.now.open.items i p here is c.loop-piece.written c.loop-piece.invariant.0 in
    omega (arith, fits, ap length c.bytes.ensures, c.requires)

pub returns-in_err-written-clause-within : goal.returns-in_err-written-clause-within
returns-in_err-written-clause-within g c =
    let ps = c.args.self.now.done.items in
    let i = c.loop-piece.piece-index in
    let p = c.piece-item.result in
    let whole = c.deref-piece-items.ensures.value in
    let here : i < length ps = subst (λ l. i < length l) whole c.loop-piece-test.true in
    let is : p ≡ get_or ps i p = subst (λ l. p ≡ get_or l i p) whole c.piece-item.is in
    let fits = part_fits piece_bytes ps c.args.self.now.open.items i p here is c.loop-piece.written c.loop-piece.invariant.0 in
    let stopped = err_from_is_err_and c.from_residual.result c.from_residual.ensures.1 in
    rw (stopped.1, stopped.2) (omega (arith, fits, ap length c.bytes.ensures, c.in_err-written.ensures.within.1))

pub returns-in_err-written-clause-front : goal.returns-in_err-written-clause-front
returns-in_err-written-clause-front g c =
    let ps = c.args.self.now.done.items in
    let i = c.loop-piece.piece-index in
    let p = c.piece-item.result in
    let n = c.in_err-written.field-0.0.written in
    let whole = c.deref-piece-items.ensures.value in
    let here : i < length ps = subst (λ l. i < length l) whole c.loop-piece-test.true in
    let is : p ≡ get_or ps i p = subst (λ l. p ≡ get_or l i p) whole c.piece-item.is in
    let below : n < c.loop-piece.written + length (piece_bytes p) = omega (arith, ap length c.bytes.ensures, c.in_err-written.ensures.within.1) in
    let begins = part_begins piece_bytes ps c.args.self.now.open.items i p here is c.loop-piece.written n c.loop-piece.invariant.0 c.in_err-written.ensures.within.0 below in
    let both = Appends-trans _ _ _ _ _ c.loop-piece.invariant.1 c.in_err-written.ensures.front in
    let same : flat_map piece_bytes (take i ps) ++ take (n - c.loop-piece.written) c.bytes.result.now ≡ flat_map piece_bytes (take i ps) ++ take (n - c.loop-piece.written) (piece_bytes p) = ap (λ s. flat_map piece_bytes (take i ps) ++ take (n - c.loop-piece.written) s) c.bytes.ensures in
    let stopped = err_from_is_err_and c.from_residual.result c.from_residual.ensures.1 in
    rw (stopped.1, stopped.2) (subst (Appends (g.W.Write.contents c.args.out.now) (g.W.Write.contents c.emit_behind.new.out)) (same ∙ begins) both)

pub returns-in_err-emit_behind-clause-front : goal.returns-in_err-emit_behind-clause-front
returns-in_err-emit_behind-clause-front g c =
    let ps = c.args.self.now.done.items in
    let last = c.args.self.now.open.items in
    let i = c.loop-piece.piece-index in
    let n = c.in_err-emit_behind.field-0.0.written in
    let whole = c.deref-piece-items.ensures.value in
    let end : length ps ≤ i = subst (λ l. length l ≤ i) whole c.loop-piece-test.false in
    let all : take i ps ≡ ps = take_all i ps end in
    let before : c.loop-piece.written ≡ length (flat_map piece_bytes ps) = c.loop-piece.invariant.0 ∙ ap (λ qs. length (flat_map piece_bytes qs)) all in
    let so_far = subst (λ qs. Appends (g.W.Write.contents c.args.out.now) (g.W.Write.contents c.loop-piece.out) (flat_map piece_bytes qs)) all c.loop-piece.invariant.1 in
    let both = Appends-trans _ _ _ _ _ so_far c.in_err-emit_behind.ensures.front in
    let same : flat_map piece_bytes ps ++ take (n - c.loop-piece.written) c.deref.result.now ≡ flat_map piece_bytes ps ++ take (n - c.loop-piece.written) last = ap (λ s. flat_map piece_bytes ps ++ take (n - c.loop-piece.written) s) c.deref.ensures.value in
    let begins = end_begins (flat_map piece_bytes ps) last c.loop-piece.written n before c.in_err-emit_behind.ensures.within.0 in
    let stopped = err_from_is_err_and c.from_residual-in_err-emit_behind.result c.from_residual-in_err-emit_behind.ensures.1 in
    rw (stopped.1, stopped.2) (subst (Appends (g.W.Write.contents c.args.out.now) (g.W.Write.contents c.emit_behind-2.new.out)) (same ∙ begins) both)
