use Rattle.wasm_format.proofs.Modules.{one_module}
use Rattle.wasm_format.proofs.law.law_one_module.Goals as goal

pub returns : goal.returns
returns c = one_module
