use Rattle.std.proofs.Common.{Option, Some, map, sym, subst}
use Rattle.std.specs.Prelude.{option_map}
use Rattle.wit_package_types.specs.Passed.wit_productions-NameView.{id}
use Rattle.wit_package_types.specs.Passed.wit_productions-TypeTree as written
use Rattle.wit_package_types.specs.Passed.wit_productions-TypeTree.{TypeTree, standing}
use Rattle.wit_package_types.specs.Passed.wit_productions-TypeView.{type_tree}
use Rattle.wit_package_types.specs.Passed.wit_productions-declared-types-Type.{«Type» as Written}
use Rattle.wit_package_types.specs.Passed.wit_syntax-AstView as view
use Rattle.wit_package_types.specs.Passed.wit_type_names-TypeNames.{names_in_parts, signature_parts}
use Rattle.wit_package_types.specs.Passed.wit_arena-Lower.{lowers_a_type}
use Rattle.wit_functions.specs.Signature.{or_resource, LowersSignature}
use Rattle.wit_functions.proofs.Parts.{there_behind, params_there, signature_is}
use Rattle.wit_functions.proofs.signature.lower_constructor.Goals as goal

pub lower_written-requires : goal.lower_written-requires
lower_written-requires c = there_behind c.args.table.now (id c.args.resource.now) (names_in_parts (signature_parts (map view.param c.args.params.now) (option_map type_tree c.args.ty.now))) c.requires

pub lower_params-requires : goal.lower_params-requires
lower_params-requires c =
    params_there c.args.table.now (map view.param c.args.params.now) (option_map type_tree c.args.ty.now)
    (there_behind c.args.table.now (id c.args.resource.now) (names_in_parts (signature_parts (map view.param c.args.params.now) (option_map type_tree c.args.ty.now))) c.requires)

pub returns-in_ok-result-in-None : goal.returns-in_ok-result-in-None
returns-in_ok-result-in-None c =
    let own : TypeTree = standing c.args.span (written.own (id c.args.resource.now)) in
    subst (λ (t : Option Written). LowersSignature c.args.table.now c.args.types.now (map view.param c.args.params.now) (or_resource (id c.args.resource.now) c.args.span (option_map type_tree t)) c.lower_own.new.types
    (record { params = c.in_ok-params-in-None.params; result = Some c.in_ok-result-in-None.result })) (sym c.in-None.is)
    (signature_is c.args.table.now c.args.types.now c.lower_params.new.types c.lower_own.new.types (map view.param c.args.params.now) (Some own) c.in_ok-params-in-None.params (Some c.in_ok-result-in-None.result)
    c.in_ok-params-in-None.ensures (lowers_a_type c.lower_params.new.types c.lower_own.new.types own c.in_ok-result-in-None.result c.in_ok-result-in-None.ensures))
