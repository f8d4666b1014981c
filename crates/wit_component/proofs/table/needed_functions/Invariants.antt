use Rattle.std.proofs.Common.{◌≡◌, map, take}
use Rattle.std.specs.Prelude.{filter}
use Rattle.plain_worlds.specs.World.{function_item}
use Rattle.wit_component.proofs.WrittenLinks.{wanted}
use Rattle.wit_component.proofs.table.needed_functions.Given as goal

abbrev pub invariant-loop-function : goal.invariant-loop-function
invariant-loop-function l = map (λ f. function_item f.now) l.needed.items ≡ filter (wanted l.table.legacy l.table.standard) (map function_item (take l.function-index l.linking.world.now.imports.items))
