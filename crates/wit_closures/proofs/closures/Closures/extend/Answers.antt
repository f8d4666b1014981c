use Rattle.std.proofs.Common.{◌<◌, ℕ, length, arith}
use Rattle.wit_closures.proofs.Reached.{row_is, row_below, one_more}
use Rattle.wit_closures.proofs.closures.Closures.extend.Goals as goal

pub push-requires : goal.push-requires
push-requires c =
    let n : ℕ = length c.loop-alloc.self in
    let less : n < length c.args.rows.now = (let t = c.loop-alloc-test.true in let e = c.len.ensures in omega (arith, t, e)) in
    row_below c.args.rows.now n c.as_slice.result.now c.requires.backward
    (row_is c.args.rows.now n c.len-in-loop-alloc.result c.index-rows-len.result c.as_slice.result.now c.len-in-loop-alloc.ensures less c.index-rows-len.is c.as_slice.ensures.value)

pub loop-alloc-preserved : goal.loop-alloc-preserved
loop-alloc-preserved c =
    let n : ℕ = length c.loop-alloc.self in
    let less : n < length c.args.rows.now = (let t = c.loop-alloc-test.true in let e = c.len.ensures in omega (arith, t, e)) in
    let r = one_more c.args.rows.now c.args.self.now c.loop-alloc.self c.push.new.self c.as_slice.result.now c.requires.backward less c.loop-alloc.invariant.reached c.loop-alloc.invariant.grown
    (row_is c.args.rows.now n c.len-in-loop-alloc.result c.index-rows-len.result c.as_slice.result.now c.len-in-loop-alloc.ensures less c.index-rows-len.is c.as_slice.ensures.value) c.in_ok-push.ensures.ok in
    record { fewer = r.0; reached = r.1; grown = r.2 }
