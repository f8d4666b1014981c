use Rattle.std.proofs.Common.{◌≡◌, ◌++◌, map, take}
use Rattle.wit_syntax.specs.AstView as view
use Rattle.wit_scopes.specs.Members as spec
use Rattle.wit_scopes.specs.View as seen
use Rattle.wit_file_scopes.proofs.members.add_names.Given as goal

abbrev pub invariant-loop-taken : goal.invariant-loop-taken
invariant-loop-taken l = seen.members l.found.items ≡ seen.members l.initial.found.items ++ map (spec.used_member (seen.target l.from) (map view.attribute l.front.value.attributes.items)) (map view.use_name (take l.taken-index l.names))
