use Rattle.wasm_format.specs.Module.{module_value}
use Rattle.wit_component.proofs.Readings.{is_reading}
use Rattle.wit_component.proofs.linking.Linking.law_main_is_read.Goals as goal

pub returns : goal.returns
returns c = is_reading c.args.self.now.bytes.now (module_value c.args.self.now.main) c.args.self.now.reads
