use Rattle.std.proofs.Common.{◌≡◌, map, drop}
use Rattle.std.specs.Prelude.{option_map}
use Rattle.wit_component.specs.Meaning.{all_there}
use Rattle.component_audit.specs.SpacesView.{core_function}
use Rattle.component_audit.proofs.walk.all_there.Given as goal

abbrev pub invariant-loop-function : goal.invariant-loop-function
invariant-loop-function l = all_there (map (option_map core_function) l.given) ≡ all_there (map (option_map core_function) (drop l.function-index l.given))
