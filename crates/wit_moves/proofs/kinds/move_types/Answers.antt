use Rattle.wit_moves.specs.Moved.{moved_ref}
use Rattle.wit_moves.proofs.Mapped.{mapped_more, mapped_all}
use Rattle.wit_moves.proofs.kinds.move_types.Goals as goal

pub loop-ty-preserved : goal.loop-ty-preserved
loop-ty-preserved g c = mapped_more (moved_ref (g.M.TypeMap.goes c.args.ids.now)) c.loop-ty.ty-index c.args.types.now c.loop-ty.types c.ty-item.result _ c.loop-ty.invariant c.loop-ty-test.true c.moved_type.ensures

pub returns : goal.returns
returns g c = mapped_all (moved_ref (g.M.TypeMap.goes c.args.ids.now)) c.loop-ty.ty-index c.args.types.now c.loop-ty.types c.loop-ty.invariant c.loop-ty-test.false
