use Rattle.std.proofs.Common.{◌≡◌, map, take}
use Rattle.std.specs.Prelude.{option_map}
use Rattle.wasm_types.specs.Entries.{import_value}
use Rattle.wasm_format.specs.Module.{module_value}
use Rattle.known_definitions.specs.Definition.{argument_value}
use Rattle.wit_component.specs.Linking.{core_import}
use Rattle.wit_component.specs.Meaning.{given_for}
use Rattle.component_audit.specs.SpacesView.{core_function}
use Rattle.component_audit.specs.WalkView.{spaces_of}
use Rattle.component_audit.proofs.walk.Walk.given.Given as goal

abbrev pub invariant-loop-import : goal.invariant-loop-import
invariant-loop-import l = map (option_map core_function) l.given.items ≡ map (given_for (spaces_of l.self).instances (map argument_value l.args)) (map (core_import (module_value l.self.linking.now.main)) (map import_value (take l.import-index l.import-items)))
