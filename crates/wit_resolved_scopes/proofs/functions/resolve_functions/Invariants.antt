use Rattle.std.proofs.Common.{◌≡◌, List, take}
use Rattle.wit_lookups.specs.Passed.wit_scopes-Scopes.{ItemScope}
use Rattle.wit_lookups.specs.Passed.wit_scopes-View as scope_view
use Rattle.wit_resources.specs.Passed.wit_arena-Tree.{PackageText, Place}
use Rattle.wit_resources.specs.Passed.wit_arena-Unfold.{Owners}
use Rattle.wit_resources.specs.Natures.{natures}
use Rattle.wit_resources.specs.Rules.{declared_result, PartBreaks, ResultBreaks}
use Rattle.wit_lookups.proofs.Loops.{AreKeptTo}
use Rattle.wit_resolved_scopes.specs.Scope.{LowersFunctions}
use Rattle.wit_resolved_scopes.specs.Faults.{StandsSoFar}
use Rattle.wit_resolved_scopes.proofs.functions.resolve_functions.Given as goal

abbrev pub invariant-loop-member : goal.invariant-loop-member
invariant-loop-member l =
    LowersFunctions l.table l.initial.types (take l.member-index (scope_view.members l.members)) l.types l.functions.items
    × (l.natures ≡ natures l.types)
    × ((me : PackageText) (scopes : List ItemScope) (owners : Owners) (o : Place) → StandsSoFar me scopes owners o l.table l.initial.types
    → AreKeptTo (λ m. PartBreaks (ResultBreaks me scopes o) (declared_result m.kind)) scope_view.member l.members l.member-index)
