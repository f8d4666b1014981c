use Rattle.std.proofs.Common.{List, map, refl, sym, subst}
use Rattle.std.specs.Prelude.{option_map}
use Rattle.wit_package_types.specs.Passed.wit_productions-NameView.{id}
use Rattle.wit_package_types.specs.Passed.wit_productions-TypeView.{type_tree}
use Rattle.wit_package_types.specs.Passed.wit_items-declared-items-Param.{Param as Written}
use Rattle.wit_package_types.specs.Passed.wit_items-ItemTree.{ParamTree}
use Rattle.wit_package_types.specs.Passed.wit_syntax-AstView as view
use Rattle.wit_package_types.specs.Passed.wit_type_names-TypeNames.{names_in_parts, param_parts, signature_parts}
use Rattle.wit_package_types.specs.Passed.wit_arena-Lower.{AreThere}
use Rattle.wit_package_types.specs.Passed.wit_arena-LowerParams.{LowersParams}
use Rattle.wit_functions.proofs.Parts.{there_first, there_behind, params_there, result_there, method_is}
use Rattle.wit_functions.proofs.signature.lower_method.Goals as goal

pub lower_borrow-requires : goal.lower_borrow-requires
lower_borrow-requires c = there_first c.args.table.now (id c.args.resource.now) (names_in_parts (signature_parts (map view.param c.args.func.now.params.items) (option_map type_tree c.args.func.now.result))) c.requires

pub lower_params-requires : goal.lower_params-requires
lower_params-requires c =
    let ps : List ParamTree = map view.param c.args.func.now.params.items in
    subst (λ (ws : List Written). AreThere c.args.table.now (names_in_parts (param_parts (map view.param ws)))) (sym c.as_slice.ensures.value)
    (params_there c.args.table.now ps (option_map type_tree c.args.func.now.result)
    (there_behind c.args.table.now (id c.args.resource.now) (names_in_parts (signature_parts ps (option_map type_tree c.args.func.now.result))) c.requires))

pub lower_result-requires : goal.lower_result-requires
lower_result-requires c =
    let ps : List ParamTree = map view.param c.args.func.now.params.items in
    result_there c.args.table.now ps (option_map type_tree c.args.func.now.result)
    (there_behind c.args.table.now (id c.args.resource.now) (names_in_parts (signature_parts ps (option_map type_tree c.args.func.now.result))) c.requires)

pub returns : goal.returns
returns c =
    let params = subst (λ (ws : List Written). LowersParams c.args.table.now c.lower_borrow.new.types (map view.param ws) c.lower_params.new.types c.in_ok-params.params.items) c.as_slice.ensures.value c.in_ok-params.ensures in
    method_is c.args.table.now c.args.types.now c.lower_borrow.new.types c.lower_params.new.types c.lower_result.new.types (id c.args.resource.now) (id c.args.name) (map view.param c.args.func.now.params.items)
    (option_map type_tree c.args.func.now.result) (record { name = c.in_ok-from_str.field-0; ty = c.in_ok-ty.ty; span = c.args.name.span }) c.in_ok-params.params.items c.insert.new.self c.in_ok-result.result
    c.in_ok-insert.ensures.items c.in_ok-ty.ensures params c.in_ok-result.ensures (rw c.in_ok-from_str.ensures.ok refl)
