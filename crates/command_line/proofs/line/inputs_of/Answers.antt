use Rattle.std.proofs.lemmas.Result.{err_from_is_err_and}
use Rattle.command_line.proofs.LineWords.{no_inputs_cause}
use Rattle.command_line.proofs.line.inputs_of.Goals as goal

pub returns-in_err-input_of-clause-err : goal.returns-in_err-input_of-clause-err
returns-in_err-input_of-clause-err c =
    let fault = c.in_err-input_of.field-0.0 in
    let moved = err_from_is_err_and c.from_residual.result c.from_residual.ensures.1 in
    rw (moved.1, moved.2)
    (no_inputs_cause c.args.words.now c.loop-word.word-index _ fault c.loop-word-test.true c.in_err-input_of.ensures.err)
