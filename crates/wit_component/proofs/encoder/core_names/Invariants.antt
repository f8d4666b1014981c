use Rattle.std.proofs.Common.{◌≡◌, map, take}
use Rattle.wit_component.specs.View as view
use Rattle.wit_component.proofs.WrittenLinks.{text_at}
use Rattle.wit_component.proofs.encoder.core_names.Given as goal

abbrev pub invariant-loop-place : goal.invariant-loop-place
invariant-loop-place l = map (λ t. t.now) l.names.items ≡ map (λ p. text_at (view.linking l.linking).main.exports p) (take l.place-index l.table.exports.items)
