use Rattle.std.specs.Prelude.{option_map}
use Rattle.wasm_format.specs.Module.{module_value}
use Rattle.component_audit.specs.SpacesView.{core_function}
use Rattle.component_audit.proofs.Named.{export_found, export_missing}
use Rattle.component_audit.proofs.walk.Walk.main_export.Goals as goal

pub returns-in-Some : goal.returns-in-Some
returns-in-Some c = export_found (module_value c.args.self.now.linking.now.main) c.args.self.now.linking.now.bytes.now c.args.instance c.args.self.now.linking.now.main.exports.items c.args.self.now.exports c.args.self.now.named c.args.name.now c.in-Some.place (option_map core_function c.export_at.result) c.in-Some.ensures c.export_at.ensures

pub returns-in-None : goal.returns-in-None
returns-in-None c = export_missing (module_value c.args.self.now.linking.now.main) c.args.self.now.linking.now.bytes.now c.args.instance c.args.self.now.linking.now.main.exports.items c.args.self.now.exports c.args.self.now.named c.args.name.now c.in-None.ensures
