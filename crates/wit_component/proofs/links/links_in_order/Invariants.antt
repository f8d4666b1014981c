use Rattle.std.proofs.Common.{◌≡◌, ◌++◌, map, take}
use Rattle.link_lines.specs.Line.{link_value}
use Rattle.wit_component.specs.Places as spec
use Rattle.wit_component.proofs.links.links_in_order.Given as goal

abbrev pub invariant-loop-place : goal.invariant-loop-place
invariant-loop-place l = map link_value l.links.items ≡ map spec.import_text (take l.place-index l.imports)

abbrev pub invariant-loop-function : goal.invariant-loop-function
invariant-loop-function l = map link_value l.links.items ≡ map spec.import_text l.imports ++ map spec.export_text (take l.function-index l.exports)
