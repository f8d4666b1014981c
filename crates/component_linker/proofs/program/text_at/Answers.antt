use Rattle.component_linker.proofs.Files.{text_there, no_text}
use Rattle.component_linker.proofs.program.text_at.Goals as goal

pub returns-in-Ok-clause-text : goal.returns-in-Ok-clause-text
returns-in-Ok-clause-text c = text_there c.args.path.now c.in_ok-bytes.bytes.now _ c.in_ok-bytes.ensures.ok c.in-Ok.ensures.cases.1

pub returns-in-Err-clause-err : goal.returns-in-Err-clause-err
returns-in-Err-clause-err c = no_text c.args.path.now c.in_ok-bytes.bytes.now _ c.in_ok-bytes.ensures.ok c.in-Err.ensures.cases.0
