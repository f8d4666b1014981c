use Rattle.text_causes.proofs.Texts.{texts_pushed}
use Rattle.text_causes.proofs.law.law_pushed_texts_have_no_cause.Goals as goal

pub returns : goal.returns
returns c = texts_pushed
