use Rattle.std.proofs.Common.{◌<◌, length, arith, sym, ◌∙◌}
use Rattle.wit_rules.proofs.Places.{read_at}
use Rattle.wit_rules.proofs.Repeated.{none_before, none_more, stands_among}
use Rattle.wit_rules.proofs.repeats.first_repeat_of_few.Goals as goal

pub loop-place-preserved : goal.loop-place-preserved
loop-place-preserved g c =
    let there = read_at c.args.keys.now c.loop-place.place c.index-keys-place.result c.loop-place-test.true c.index-keys-place.is in
    none_more g.K.PartialEq.eq c.args.keys.now c.loop-place.place c.loop-place.invariant (none_before g.K.PartialEq.eq c.args.keys.now c.loop-place.place c.index-keys-place.result there (sym c.is_among.ensures ∙ c.if-is_among.false))

pub returns : goal.returns
returns g c place r =
    let within : place < length c.args.keys.now = stands_among g.K.PartialEq.eq c.args.keys.now place r in
    c.loop-place.invariant place (omega (arith, c.loop-place-test.false, within)) r
