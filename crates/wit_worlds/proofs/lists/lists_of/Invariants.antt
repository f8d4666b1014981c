use Rattle.std.proofs.Common.{map}
use Rattle.wit_scopes.specs.View as scope_view
use Rattle.wit_worlds.specs.PathView as seen
use Rattle.wit_worlds.proofs.Listed.{SoFar}
use Rattle.wit_worlds.proofs.lists.lists_of.Given as goal

abbrev pub invariant-loop-member : goal.invariant-loop-member
invariant-loop-member l =
    SoFar (seen.paths l.paths) (map scope_view.world_member l.members) l.fn.left.functions.items l.fn.left.labelled.items l.fn.imports.items l.member-index l.left.functions.items l.left.labelled.items l.lists.imports.items l.lists.exports.items l.lists.includes.items
