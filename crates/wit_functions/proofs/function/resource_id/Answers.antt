use Rattle.std.proofs.Common.{refl}
use Rattle.wit_package_types.specs.Passed.wit_syntax-AstView as view
use Rattle.wit_functions.proofs.function.resource_id.Goals as goal

pub unreachable-requires : goal.unreachable-requires
unreachable-requires c = let e = c.requires (view.id c.args.name.now) (0, refl) in c.in-None.ensures.none e.0 e.1
