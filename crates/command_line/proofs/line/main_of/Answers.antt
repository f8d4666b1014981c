use Rattle.command_line.proofs.LineWords.{no_main}
use Rattle.command_line.proofs.line.main_of.Goals as goal

pub returns-in_default-clause-err : goal.returns-in_default-clause-err
returns-in_default-clause-err c = no_main c.args.rest.now c.in_default.ensures
