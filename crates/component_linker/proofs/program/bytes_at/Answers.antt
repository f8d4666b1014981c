use Rattle.std.proofs.Common.{◌∙◌, sym}
use Rattle.component_linker.proofs.Files.{file_here, file_later}
use Rattle.component_linker.proofs.program.bytes_at.Goals as goal

pub returns-then-eq-clause-ok : goal.returns-then-eq-clause-ok
returns-then-eq-clause-ok c =
    file_here c.args.files.now c.args.path.now c.loop-name.name-index _ c.loop-name-test.true c.loop-name.invariant (sym c.eq.ensures ∙ c.if-eq.true)

pub loop-name-preserved : goal.loop-name-preserved
loop-name-preserved c =
    file_later c.args.files.now c.args.path.now c.loop-name.name-index _ c.loop-name-test.true c.loop-name.invariant (sym c.eq.ensures ∙ c.if-eq.false)
