use Rattle.std.proofs.Common.{List, map, subst, sym, ◌∙◌, ap}
use Rattle.std.specs.Prelude.{option_map}
use Rattle.wit_package_types.specs.Passed.wit_items-declared-items-Func.{Func}
use Rattle.wit_package_types.specs.Passed.wit_items-declared-items-Param.{Param}
use Rattle.wit_package_types.specs.Passed.wit_productions-NameView.{id}
use Rattle.wit_package_types.specs.Passed.wit_syntax-AstView as view
use Rattle.wit_package_types.specs.Passed.wit_productions-TypeView.{type_tree}
use Rattle.wit_package_types.specs.Passed.wit_scopes-declared-members-MemberKind.{MemberKind}
use Rattle.wit_package_types.specs.Passed.wit_scopes-View as scope_view
use Rattle.wit_package_types.specs.Passed.wit_type_names-TypeNames.{names_in_parts, signature_parts}
use Rattle.wit_package_types.specs.Passed.wit_arena-Lower.{AreThere}
use Rattle.wit_functions.specs.Signature.{behind, function_names}
use Rattle.wit_functions.proofs.Parts.{there_behind}
use Rattle.wit_functions.proofs.signature.lower_signature.Goals as goal

pub lower_func-requires-in-Static : goal.lower_func-requires-in-Static
lower_func-requires-in-Static c =
    let func = c.in-Static.func.value in
    subst (λ (f : Func). AreThere c.args.table.now (names_in_parts (signature_parts (map view.param f.params.items) (option_map type_tree f.result)))) (sym c.deref-in-Static.ensures)
    (there_behind c.args.table.now (id c.in-Static.resource) (names_in_parts (signature_parts (map view.param func.params.items) (option_map type_tree func.result)))
    (subst (λ (k : MemberKind). AreThere c.args.table.now (function_names (scope_view.member_kind k))) c.in-Static.is c.requires.names))

pub lower_method-requires : goal.lower_method-requires
lower_method-requires c =
    subst (λ (f : Func). AreThere c.args.table.now (behind (id c.in-Method.resource) (names_in_parts (signature_parts (map view.param f.params.items) (option_map type_tree f.result))))) (sym c.deref-in-Method.ensures)
    (subst (λ (k : MemberKind). AreThere c.args.table.now (function_names (scope_view.member_kind k))) c.in-Method.is c.requires.names)

pub lower_constructor-requires : goal.lower_constructor-requires
lower_constructor-requires c =
    let func = c.in-Constructor.func.value in
    let r = id c.in-Constructor.resource in
    subst (λ (ps : List Param). AreThere c.args.table.now (behind r (names_in_parts (signature_parts (map view.param ps) (option_map type_tree c.deref-in-Constructor-2.result.now.result)))))
    (sym (c.as_slice.ensures.value ∙ ap (λ (f : Func). f.params.items) c.deref-in-Constructor.ensures))
    (subst (λ (f : Func). AreThere c.args.table.now (behind r (names_in_parts (signature_parts (map view.param func.params.items) (option_map type_tree f.result))))) (sym c.deref-in-Constructor-2.ensures)
    (subst (λ (k : MemberKind). AreThere c.args.table.now (function_names (scope_view.member_kind k))) c.in-Constructor.is c.requires.names))
