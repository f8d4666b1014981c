use Rattle.wit_offsets.proofs.Whole.{package_walks}
use Rattle.wit_offsets.proofs.package.move_package.Goals as goal

pub returns : goal.returns
returns c =
    package_walks c.args.shift.now c.move_by.new.shift c.move_all.new.shift c.move_all-2.new.shift c.moved_arena.new.shift c.moved_arena-2.new.shift c.moved_arena-3.new.shift c.args.package c.move_by.new.self
    c.as_mut_slice.result.now c.move_all.new.items c.as_mut_slice-2.result.now c.move_all-2.new.items c.moved_arena.result c.moved_arena-2.result c.moved_arena-3.result c.as_mut_slice.ensures.value c.as_mut_slice-2.ensures.value
    c.move_by.ensures c.move_all.ensures c.move_all-2.ensures c.moved_arena.ensures c.moved_arena-2.ensures c.moved_arena-3.ensures
