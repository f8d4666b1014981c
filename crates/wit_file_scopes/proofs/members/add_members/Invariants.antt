use Rattle.std.proofs.Common.{◌≡◌, ◌++◌, List, map, take, length}
use Rattle.wit_syntax.specs.Ast.{ToplevelUseTree}
use Rattle.wit_syntax.specs.AstView as view
use Rattle.wit_scopes.specs.Members as spec
use Rattle.wit_scopes.specs.View as seen
use Rattle.wit_file_scopes.proofs.members.add_members.Given as goal

abbrev pub invariant-loop-gated : goal.invariant-loop-gated
invariant-loop-gated l = (us : List ToplevelUseTree) → seen.AreUses (view.package_name l.uses.me) us l.uses → seen.members l.found.items ≡ seen.members l.initial.found.items ++ spec.interface_members (view.package_name l.uses.me) us (map (view.gated view.interface_item) (take (length l.yielded) l.fn.items.items))
