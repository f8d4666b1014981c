use Rattle.std.proofs.Math.ListN.{drop}
use Rattle.wit_shapes.specs.Shapes as spec
use Rattle.wit_moves.proofs.Leading.{Leads}
use Rattle.wit_shapes.proofs.shapes.check_types.Given as goal

abbrev pub invariant-loop-def : goal.invariant-loop-def
invariant-loop-def l = Leads (spec.TypeBreaks l.natures) l.types (drop l.def-index l.types)
