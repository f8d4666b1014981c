use Rattle.wasm_format.specs.Module.{module_value}
use Rattle.wit_component.specs.Linking.{main_of}
use Rattle.component_audit.proofs.walk.Walk.new.Goals as goal

pub invariant_of-result : goal.invariant_of-result
invariant_of-result c = record { named = c.in_ok-exports.ensures; within = c.new.ensures.within c.args.length }

pub returns-clause-ok : goal.returns-clause-ok
returns-clause-ok c = c.new.ensures.none (main_of c.args.linking.now.bytes.now (module_value c.args.linking.now.main))
