use Rattle.std.proofs.Common.{◌≡◌, map}
use Rattle.wit_resolved_scopes.specs.Passed.wit_resources-Natures.{natures as natures_of}
use Rattle.wit_scopes.specs.View as scope_view
use Rattle.wit_interfaces.specs.Places.{interfaces_at}
use Rattle.wit_interfaces.proofs.SoFar.{SoFar}
use Rattle.wit_interfaces.proofs.building.add_interfaces.Given as goal

abbrev pub invariant-loop-place : goal.invariant-loop-place
invariant-loop-place l =
    SoFar l.fn.building.known l.fn.building.types l.fn.building.interfaces (interfaces_at (map scope_view.item_scope l.scopes) l.places) l.place-index l.building.known l.building.types l.building.interfaces × (l.building.natures ≡ natures_of l.building.types)
