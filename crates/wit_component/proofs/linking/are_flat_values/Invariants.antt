use Rattle.std.proofs.Common.{◌≡◌, map, take}
use Rattle.plain_worlds.specs.World.{param_item}
use Rattle.wit_component.specs.Flat.{flat_value}
use Rattle.wit_component.proofs.linking.are_flat_values.Given as goal

abbrev pub invariant-loop-place : goal.invariant-loop-place
invariant-loop-place l = take l.place l.values ≡ map (λ p. flat_value p.ty) (map param_item (take l.place l.params))
