use Rattle.std.proofs.Common.{◌≡◌, map, take}
use Rattle.std.specs.Prelude.{option_map}
use Rattle.wit_component.specs.Meaning.{item_at}
use Rattle.component_audit.specs.SpacesView.{core_function}
use Rattle.component_audit.specs.WalkView.{spaces_of}
use Rattle.component_audit.proofs.walk.Walk.entries.Given as goal

abbrev pub invariant-loop-export : goal.invariant-loop-export
invariant-loop-export l = record {
  names : l.names ≡ map (λ e. e.name.now) (take l.export-index l.exports);
  items : map (option_map core_function) l.items.items ≡ map (λ e. item_at (spaces_of l.self).core_functions e.func) (take l.export-index l.exports);
}
