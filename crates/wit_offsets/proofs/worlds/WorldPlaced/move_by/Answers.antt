use Rattle.wit_offsets.proofs.Whole.{world_walks}
use Rattle.wit_offsets.proofs.worlds.WorldPlaced.move_by.Goals as goal

pub returns : goal.returns
returns c =
    world_walks c.args.shift.now c.move_by.new.shift c.move_values.new.shift c.move_values-2.new.shift c.move_all.new.shift c.args.self.now c.move_by.new.self c.move_values.new.items c.move_values-2.new.items c.as_mut_slice.result.now c.move_all.new.items
    c.as_mut_slice.ensures.value c.move_by.ensures c.move_values.ensures c.move_values-2.ensures c.move_all.ensures
