use Rattle.std.proofs.Common.{◌∙◌, sym}
use Rattle.component_linker.proofs.Files.{failed, appends_front, appends_all}
use Rattle.component_linker.proofs.program.write_texts.Goals as goal

pub returns-then-is_err : goal.returns-then-is_err
returns-then-is_err g c =
    appends_front _ _ _ c.args.texts.now c.loop-text.text-index _ c.as_bytes.result.now c.loop-text-test.true c.as_bytes.ensures.value c.loop-text.invariant
    (failed c.emit.result _ _ _ (sym c.is_err.ensures.value ∙ c.if-is_err.true) c.emit.ensures.within c.emit.ensures.front)

pub returns : goal.returns
returns g c = appends_all _ _ c.args.texts.now c.loop-text.text-index c.loop-text-test.false c.loop-text.invariant
