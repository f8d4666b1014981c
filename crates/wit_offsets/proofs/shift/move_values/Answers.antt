use Rattle.std.proofs.Common.{◌+◌, arith}
use Rattle.indexmap.specs.IndexMap.{values}
use Rattle.wit_offsets.proofs.Maps.{WalkedValues, shown, not_shown, walked_value, walked_within, walked_values}
use Rattle.wit_offsets.proofs.shift.move_values.Goals as goal
use Rattle.wit_offsets.proofs.shift.move_values.Goals.{in-Some, in_default}

pub loop-place-preserved : goal.loop-place-preserved
loop-place-preserved g c =
    let by = g.T.Placed.by in
    let spans = g.T.Placed.spans in
    let old = c.args.items.now in
    let now = c.loop-place.items in
    let k = c.loop-place.place in
    let before = c.args.shift.now in
    let value = c.get_index_mut.ensures.value in
    elim c.match-get_index_mut.branch as (λ _. WalkedValues by spans (k + 1) before old c.match-get_index_mut.shift c.match-get_index_mut.items) [
      | in-Some w ↦
          let there = shown (values now) k c.get_index_mut.result w.in-Some.value value w.in-Some.is in
          rw (w.items-is, w.shift-is) (walked_value by spans k before c.loop-place.shift w.move_by.new.shift old now w.in-Some.value.now w.move_by.new.self c.loop-place.invariant there w.move_by.ensures)
      | in_default w ↦
          let none = not_shown (values now) k c.get_index_mut.result value w.in_default.is in
          let test = c.loop-place-test.true in
          let size = c.len-place-end.ensures.len in
          absurd (walked_within by spans k before c.loop-place.shift old now c.loop-place.invariant none (omega (arith, test, size)))
    ]

pub returns : goal.returns
returns g c =
    let past = c.loop-place-test.false in
    let size = c.len-place-end.ensures.len in
    walked_values g.T.Placed.by g.T.Placed.spans c.loop-place.place c.args.shift.now c.loop-place.shift c.args.items.now c.loop-place.items c.loop-place.invariant (omega (arith, past, size))
