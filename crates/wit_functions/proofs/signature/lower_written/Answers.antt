use Rattle.std.proofs.Common.{map}
use Rattle.std.specs.Prelude.{option_map}
use Rattle.wit_package_types.specs.Passed.wit_productions-TypeView.{type_tree}
use Rattle.wit_package_types.specs.Passed.wit_syntax-AstView as view
use Rattle.wit_functions.proofs.Parts.{params_there, result_there, signature_is}
use Rattle.wit_functions.proofs.signature.lower_written.Goals as goal

pub lower_params-requires : goal.lower_params-requires
lower_params-requires c = params_there c.args.table.now (map view.param c.args.params.now) (option_map type_tree c.args.ty.now) c.requires

pub lower_result-requires : goal.lower_result-requires
lower_result-requires c = result_there c.args.table.now (map view.param c.args.params.now) (option_map type_tree c.args.ty.now) c.requires

pub returns : goal.returns
returns c =
    signature_is c.args.table.now c.args.types.now c.lower_params.new.types c.lower_result.new.types (map view.param c.args.params.now) (option_map type_tree c.args.ty.now) c.in_ok-params.params c.in_ok-result.result
    c.in_ok-params.ensures c.in_ok-result.ensures
