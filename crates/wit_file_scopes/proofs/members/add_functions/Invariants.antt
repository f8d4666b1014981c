use Rattle.std.proofs.Common.{◌≡◌, ◌++◌, map, take, length}
use Rattle.wit_syntax.specs.AstView as view
use Rattle.wit_scopes.specs.Members as spec
use Rattle.wit_scopes.specs.View as seen
use Rattle.wit_file_scopes.proofs.members.add_functions.Given as goal

abbrev pub invariant-loop-gated : goal.invariant-loop-gated
invariant-loop-gated l = seen.members l.found.items ≡ seen.members l.initial.found.items ++ map (spec.resource_member (view.id l.resource)) (map (view.gated view.resource_func) (take (length l.yielded) l.fn.funcs.items))
