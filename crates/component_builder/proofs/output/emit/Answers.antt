use Rattle.std.proofs.Common.{◌≡◌, ◌≤◌, ◌+◌, take, drop, length, arith, length-drop, subst, sym, ◌∙◌, ◌++◌, ap}
use Rattle.std.proofs.Math.Seq.{take-add}
use Rattle.std.specs.Io.KnownBytes.{Appends}
use Rattle.std.proofs.KnownBytes.{Appends-trans}
use Rattle.component_builder.proofs.output.emit.Goals as goal

pub loop-written-preserved : goal.loop-written-preserved
loop-written-preserved g c =
    let bytes = c.args.bytes.now in
    let front = take c.loop-written.written bytes in
    let len : length c.split_at.result.1.now ≡ length (drop c.loop-written.written bytes) = ap length c.split_at.ensures.back in
    let within : c.loop-written.written + c.in-Ok.count ≤ length bytes = omega (arith, len, c.in-Ok.ensures.bound, length-drop c.loop-written.written bytes) in
    let taken : take (c.loop-written.written + c.in-Ok.count) bytes ≡ front ++ take c.in-Ok.count c.split_at.result.1.now =
    take-add c.loop-written.written c.in-Ok.count bytes ∙ ap (λ l. front ++ take c.in-Ok.count l) (sym c.split_at.ensures.back) in
    let both = Appends-trans _ _ _ _ _ c.loop-written.invariant.1 c.in-Ok.ensures.bytes in
    (within, subst (Appends (g.W.Write.contents c.args.out.now) (g.W.Write.contents c.write.new.self)) (sym taken) both)
