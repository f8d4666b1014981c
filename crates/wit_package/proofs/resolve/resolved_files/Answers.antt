use Rattle.std.proofs.Common.{map}
use Rattle.wit_syntax.specs.AstView as view
use Rattle.wit_package.proofs.Stepping.{declared_if}
use Rattle.wit_package.proofs.resolve.resolved_files.Goals as goal

pub resolved_if-requires : goal.resolved_if-requires
resolved_if-requires c = (map view.file c.args.files.items, declared_if (map view.file c.args.files.items) c.declared_in-declared.result c.declared_in-declared.ensures.ok c.declared_in-declared.ensures.cause)
