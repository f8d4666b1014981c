use Rattle.command_line.proofs.LineWords.{no_input, no_kind_of_input}
use Rattle.command_line.proofs.line.input_of.Goals as goal

pub returns-in_default-clause-err : goal.returns-in_default-clause-err
returns-in_default-clause-err c = no_input c.args.word.now c.in_default.ensures

pub returns-in_default-kind-clause-err : goal.returns-in_default-kind-clause-err
returns-in_default-kind-clause-err c =
    no_kind_of_input c.args.word.now c.in-Some.kind.now c.in-Some.rest.now c.in-Some.ensures.0 c.in-Some.ensures.1
    c.in_default-kind.not-text c.in_default-kind.not-dep c.in_default-kind.not-main c.in_default-kind.not-component
