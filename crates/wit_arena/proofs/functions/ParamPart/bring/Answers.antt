use Rattle.wit_type_names.specs.Passed.wit_productions-TypeView.{type_tree}
use Rattle.wit_arena.specs.Lower.{lowers_a_type}
use Rattle.wit_arena.proofs.functions.ParamPart.bring.Goals as goal

pub returns-clause-part : goal.returns-clause-part
returns-clause-part c = lowers_a_type c.args.types.now c.lower.new.types (type_tree c.args.written.now.ty) c.in_ok-ty.ty c.in_ok-ty.ensures
