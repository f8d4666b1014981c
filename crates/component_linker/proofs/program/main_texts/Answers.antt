use Rattle.std.proofs.Common.{ap, sym, ◌∙◌}
use Rattle.wit_component.proofs.Results.{moved_up}
use Rattle.component_linker.specs.Program.{file_at, input_fault, textless_path}
use Rattle.component_linker.specs.Stops.{IsTextsStop}
use Rattle.component_linker.proofs.Files.{text_missing}
use Rattle.component_linker.proofs.program.main_texts.Goals as goal

pub returns-in_err-text_at-clause-err : goal.returns-in_err-text_at-clause-err
returns-in_err-text_at-clause-err c =
    let files = c.args.files.now in
    let stop = c.in_err-text_at.field-0.0 in
    moved_up c.from_residual.result stop (IsTextsStop files (λ x p. ⊥) c.args.inputs.now) c.from_residual.ensures.1
    (text_missing files (λ x p. ⊥) c.args.inputs.now c.loop-input.input-index c.input-item.result c.as_str-in-Text.result.now stop c.loop-input-test.true c.input-item.is
    (ap (input_fault files) c.in-Text.is ∙ ap (λ b. textless_path b (file_at files b)) (sym c.as_str-in-Text.ensures.value)) c.in_err-text_at.ensures.err)
