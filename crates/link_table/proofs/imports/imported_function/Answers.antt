use Rattle.link_table.specs.Linking.{linking_value}
use Rattle.link_table.proofs.Found.{as_imported}
use Rattle.link_table.proofs.imports.imported_function.Goals as goal

pub returns-in-ResourceIntrinsic : goal.returns-in-ResourceIntrinsic
returns-in-ResourceIntrinsic c = λ i at. as_imported (linking_value c.args.linking.now).names i _ (c.in-ResourceIntrinsic.ensures _ i c.requires.links at)
