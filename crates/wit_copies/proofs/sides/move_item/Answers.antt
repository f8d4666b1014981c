use Rattle.wit_moves.specs.Worlds.{moved_interface, moved_function, moved_type}
use Rattle.wit_copies.proofs.sides.move_item.Goals as goal

pub returns-in-Interface : goal.returns-in-Interface
returns-in-Interface c = rw c.in-Interface.is (moved_interface c.in-Interface.id c.in-Interface.stability c.in-Interface.span)

pub returns-in-Function : goal.returns-in-Function
returns-in-Function c = rw c.in-Function.is (moved_function c.in-Function.function c.move_function.new.function c.move_function.ensures)

pub returns-in-TypeItem : goal.returns-in-TypeItem
returns-in-TypeItem c = rw c.in-TypeItem.is (rw c.moved_id.ensures (moved_type c.in-TypeItem.id c.in-TypeItem.span))
