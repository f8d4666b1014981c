use Rattle.std.proofs.Math.ListN.{drop}
use Rattle.wit_types.specs.declared.world.WorldItem.{WorldItem}
use Rattle.wit_types.specs.declared.world_key.WorldKey.{WorldKey}
use Rattle.wit_shapes.specs.Shapes as spec
use Rattle.wit_moves.proofs.Leading.{Leads}
use Rattle.wit_shapes.proofs.shapes.check_side.Given as goal

abbrev pub invariant-loop-entry : goal.invariant-loop-entry
invariant-loop-entry l = Leads (λ (e : WorldKey × WorldItem). spec.ItemBreaks l.natures e.1) l.side (drop l.entry-index l.side)
