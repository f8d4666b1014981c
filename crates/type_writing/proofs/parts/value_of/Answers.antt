use Rattle.type_writing.proofs.Standing.{primitive_stands}
use Rattle.type_writing.proofs.parts.value_of.Goals as goal

pub returns-in-Some-clause-stands : goal.returns-in-Some-clause-stands
returns-in-Some-clause-stands g c = λ types good. primitive_stands (g.S.ValtypeEncoder.setting c.args.sink.now).label types (g.S.ValtypeEncoder.space c.args.sink.now) c.args.ty.now c.in-Some.primitive c.in-Some.ensures.some
