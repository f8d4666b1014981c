use Rattle.std.proofs.Common.{map, take}
use Rattle.plain_worlds.specs.World.{function_item}
use Rattle.wit_component.specs.Places.{Placed, ExportPlace}
use Rattle.wit_component.specs.View as view
use Rattle.wit_component.proofs.table.export_places.Given as goal

abbrev pub invariant-loop-function : goal.invariant-loop-function
invariant-loop-function l = Placed (ExportPlace (view.linking l.linking)) (map function_item (take l.function-index l.linking.world.now.exports.items)) l.places.items
