use Rattle.std.proofs.Common.{◌≡◌, length}
use Rattle.wit_resolved_scopes.specs.Passed.wit_resources-Natures.{natures as natures_of}
use Rattle.wit_scopes.specs.View as scope_view
use Rattle.wit_arena.proofs.Extending.{Extends}
use Rattle.wit_resolved_scopes.specs.Texts.{labelled_texts}
use Rattle.wit_interfaces.proofs.Labelling.{TextsSoFar, first_texts}
use Rattle.wit_interfaces.proofs.labelled.add_labelled.Given as goal

abbrev pub invariant-loop-member : goal.invariant-loop-member
invariant-loop-member l =
    TextsSoFar l.fn.building.known l.fn.building.types l.fn.building.interfaces (labelled_texts (scope_view.world_scope l.world)) (first_texts (scope_view.world_scope l.world) l.member-index) l.building.types l.building.interfaces l.ids.items
    × (l.building.known ≡ l.fn.building.known)
    × (l.building.natures ≡ natures_of l.building.types)
    × Extends l.fn.building.types l.building.types
    × (length l.ids.items ≡ length (first_texts (scope_view.world_scope l.world) l.member-index))
