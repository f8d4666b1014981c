use Rattle.handed_modules.proofs.Kept.{modules_are_kept}
use Rattle.handed_modules.proofs.law.law_modules_are_kept.Goals as goal

pub returns : goal.returns
returns c = modules_are_kept
