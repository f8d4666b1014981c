use Rattle.std.proofs.Common.{◌≡◌, take, fold}
use Rattle.known_definitions.specs.Definition.{definition_values}
use Rattle.wit_component.specs.Meaning.{after, no_spaces}
use Rattle.component_audit.specs.SpacesView.{spaces}
use Rattle.wit_component.specs.View as view
use Rattle.component_audit.proofs.auditor.walk_over.Given as goal

abbrev pub invariant-loop-definition : goal.invariant-loop-definition
invariant-loop-definition l =
    (spaces (view.linking l.linking).main l.walk.spaces ≡ fold (after (view.linking l.linking).main) no_spaces (definition_values (take l.definition-index l.definitions)))
    × (l.walk.linking.now ≡ l.linking) × (l.walk.length ≡ l.length)
