use Rattle.wasm_format.proofs.Modules.{none_begins}
use Rattle.wasm_format.proofs.law.law_a_break_stays.Goals as goal

pub returns : goal.returns
returns c = none_begins
