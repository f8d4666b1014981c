use Rattle.std.proofs.Common.{◌<◌, length, rules, arith, refl}
use Rattle.wit_rules.proofs.Places.{read_at}
use Rattle.wit_rules.proofs.Repeated.{repeated, not_repeated, keys_more, none_more, stands_among}
use Rattle.wit_rules.proofs.repeats.first_repeat.Goals as goal

pub returns-then-not-is_new : goal.returns-then-not-is_new
returns-then-not-is_new g c =
    let within : c.loop-place.place < length c.args.keys.now = search rules in
    let there = read_at c.args.keys.now c.loop-place.place c.index-keys-place.result within c.index-keys-place.is in
    record {
      repeat = repeated g.K.PartialEq.eq c.args.keys.now c.loop-place.place c.index-keys-place.result c.loop-place.seen.keys c.loop-place.invariant.0 there c.in_ok-is_new.is_new c.in_ok-is_new.ensures.added c.if-not-is_new.true;
      first = c.loop-place.invariant.1;
    }

pub loop-place-preserved : goal.loop-place-preserved
loop-place-preserved g c =
    let within : c.loop-place.place < length c.args.keys.now = search rules in
    let there = read_at c.args.keys.now c.loop-place.place c.index-keys-place.result within c.index-keys-place.is in (
      keys_more g.K.PartialEq.eq c.args.keys.now c.loop-place.place c.index-keys-place.result c.loop-place.seen.keys c.loop-place.invariant.0 there _ c.insert_full.new.self.keys c.in_ok-is_new.is_new refl c.in_ok-is_new.ensures.keys c.in_ok-is_new.ensures.added c.if-not-is_new.false,
      none_more g.K.PartialEq.eq c.args.keys.now c.loop-place.place c.loop-place.invariant.1 (not_repeated g.K.PartialEq.eq c.args.keys.now c.loop-place.place c.index-keys-place.result c.loop-place.seen.keys c.loop-place.invariant.0 there c.in_ok-is_new.is_new c.in_ok-is_new.ensures.added c.if-not-is_new.false),
    )

pub returns : goal.returns
returns g c = λ place r. let within : place < length c.args.keys.now = stands_among g.K.PartialEq.eq c.args.keys.now place r in c.loop-place.invariant.1 place (omega (arith, c.loop-place-test.false)) r
