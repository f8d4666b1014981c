use Rattle.std.proofs.Common.{◌≡◌, map}
use Rattle.wit_interfaces.specs.Passed.wit_resources-Natures.{natures as natures_of}
use Rattle.wit_scopes.specs.View as scope_view
use Rattle.wit_built_worlds.specs.Places.{worlds_at}
use Rattle.wit_built_worlds.proofs.SoFar.{SoFar}
use Rattle.wit_built_worlds.proofs.building.add_worlds.Given as goal

abbrev pub invariant-loop-place : goal.invariant-loop-place
invariant-loop-place l = record {
  so_far : SoFar l.fn.building.known l.fn.building.types l.fn.building.interfaces l.items l.fn.built.worlds (worlds_at (map scope_view.item_scope l.scopes) l.places) l.place-index l.building.known l.building.types l.building.interfaces l.built.names l.built.worlds;
  natures : l.building.natures ≡ natures_of l.building.types;
}
