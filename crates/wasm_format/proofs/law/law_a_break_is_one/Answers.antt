use Rattle.wasm_format.proofs.Modules.{one_break}
use Rattle.wasm_format.proofs.law.law_a_break_is_one.Goals as goal

pub returns : goal.returns
returns c = one_break
