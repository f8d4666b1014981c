use Rattle.std.proofs.Common.{◌≡◌, ◌++◌, map, take, length}
use Rattle.wit_scopes.specs.Scopes as spec
use Rattle.wit_scopes.specs.View as seen
use Rattle.wit_file_scopes.proofs.worlds.add_plain.Given as goal

abbrev pub invariant-loop-member : goal.invariant-loop-member
invariant-loop-member l = map seen.world_member l.found.items ≡ map seen.world_member l.initial.found.items ++ map spec.member (seen.members (take (length l.yielded) l.fn.members.items))
