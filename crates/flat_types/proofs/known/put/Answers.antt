use Rattle.std.proofs.Common.{set, sym, ap, ◌∙◌, arith}
use Rattle.wasm_types.specs.declared.types.ValType.{ValType}
use Rattle.flat_types.specs.Flat.{join}
use Rattle.flat_types.proofs.Gathering.{put_within, put_past}
use Rattle.flat_types.proofs.known.put.Goals as goal

pub returns-then-place-len : goal.returns-then-place-len
returns-then-place-len c =
    ap (λ (v : ValType). set c.args.places.now.items c.args.place v) (c.join.ensures ∙ ap (λ (v : ValType). join v c.args.value) c.index.ensures)
    ∙ sym (put_within c.args.places.now.items c.args.place c.args.value c.index.result.now (omega arith))

pub returns : goal.returns
returns c = c.in_ok-push.ensures.items ∙ sym (put_past c.args.places.now.items c.args.place c.args.value (omega arith))
