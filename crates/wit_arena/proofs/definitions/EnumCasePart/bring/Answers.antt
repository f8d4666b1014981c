use Rattle.wit_arena.specs.Lower.{lowers_nothing}
use Rattle.wit_arena.proofs.definitions.EnumCasePart.bring.Goals as goal

pub returns-clause-part : goal.returns-clause-part
returns-clause-part c = lowers_nothing c.args.types.now
