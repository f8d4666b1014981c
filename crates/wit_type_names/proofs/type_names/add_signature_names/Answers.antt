use Rattle.std.proofs.Common.{◌≡◌, ◌++◌, List, map, sym, ap, ◌∙◌, append_assoc}
use Rattle.std.proofs.lemmas.Simd.{map-map}
use Rattle.std.specs.Prelude.{option_map}
use Rattle.wit_scopes.specs.Passed.wit_words-Slice.{Slice}
use Rattle.wit_scopes.specs.Passed.wit_items-ItemTree.{ParamTree}
use Rattle.wit_scopes.specs.Passed.wit_syntax-AstView as view
use Rattle.wit_scopes.specs.Passed.wit_productions-TypeTree.{TypeOption, opt, a_type}
use Rattle.wit_scopes.specs.Passed.wit_productions-TypeView.{type_tree}
use Rattle.wit_type_names.specs.TypeNames.{names_in_part, names_in_parts, handles_in_part, handles_in_parts, param_parts}
use Rattle.wit_scopes.proofs.Lists.{flat_map-push}
use Rattle.wit_scopes.proofs.Outcomes.{on_ok}
use Rattle.wit_type_names.proofs.type_names.add_signature_names.Goals as goal

pub returns-clause-names : goal.returns-clause-names
returns-clause-names c =
    let before : List Slice = map view.id c.args.found.now.names.items in
    let last : TypeOption = opt (option_map type_tree c.args.answer.now) in
    let params : List TypeOption = param_parts (map view.param c.args.params.now) in
    let first : map view.id c.add_all.new.found.names.items ≡ before ++ names_in_parts params =
    c.in_ok-add_all.ensures.names ∙ ap (λ (ps : List TypeOption). before ++ names_in_parts ps) (sym (map-map (λ (p : ParamTree). a_type p.ty) view.param c.args.params.now)) in
    on_ok c.add_result_names.result
    (λ (e : map view.id c.add_result_names.new.found.names.items ≡ map view.id c.add_all.new.found.names.items ++ names_in_part last).
    e ∙ ap (λ (ns : List Slice). ns ++ names_in_part last) first ∙ append_assoc before (names_in_parts params) (names_in_part last)
    ∙ ap (λ (ns : List Slice). before ++ ns) (sym (flat_map-push names_in_part params last)))
    c.add_result_names.ensures.names

pub returns-clause-handles : goal.returns-clause-handles
returns-clause-handles c =
    let before : List Slice = map view.id c.args.found.now.handles.items in
    let last : TypeOption = opt (option_map type_tree c.args.answer.now) in
    let params : List TypeOption = param_parts (map view.param c.args.params.now) in
    let first : map view.id c.add_all.new.found.handles.items ≡ before ++ handles_in_parts params =
    c.in_ok-add_all.ensures.handles ∙ ap (λ (ps : List TypeOption). before ++ handles_in_parts ps) (sym (map-map (λ (p : ParamTree). a_type p.ty) view.param c.args.params.now)) in
    on_ok c.add_result_names.result
    (λ (e : map view.id c.add_result_names.new.found.handles.items ≡ map view.id c.add_all.new.found.handles.items ++ handles_in_part last).
    e ∙ ap (λ (ns : List Slice). ns ++ handles_in_part last) first ∙ append_assoc before (handles_in_parts params) (handles_in_part last)
    ∙ ap (λ (ns : List Slice). before ++ ns) (sym (flat_map-push handles_in_part params last)))
    c.add_result_names.ensures.handles
