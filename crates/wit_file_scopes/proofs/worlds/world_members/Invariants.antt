use Rattle.std.proofs.Common.{◌≡◌, List, map, take, length}
use Rattle.wit_syntax.specs.Ast.{ToplevelUseTree}
use Rattle.wit_syntax.specs.AstView as view
use Rattle.wit_scopes.specs.Scopes as spec
use Rattle.wit_scopes.specs.View as seen
use Rattle.wit_file_scopes.proofs.worlds.world_members.Given as goal

abbrev pub invariant-loop-gated : goal.invariant-loop-gated
invariant-loop-gated l = (us : List ToplevelUseTree) → seen.AreUses (view.package_name l.uses.me) us l.uses → map seen.world_member l.found.items ≡ spec.world_members (view.package_name l.uses.me) us (map (view.gated view.world_item) (take (length l.yielded) l.fn.items.items))
