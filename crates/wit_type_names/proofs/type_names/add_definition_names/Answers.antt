use Rattle.std.proofs.Common.{◌≡◌, ◌++◌, List, map, sym, ap, subst, ◌∙◌}
use Rattle.std.proofs.lemmas.Simd.{map-map}
use Rattle.std.specs.Prelude.{OnOk, option_map}
use Rattle.wit_scopes.specs.Passed.wit_items-declared-items-Field.{Field}
use Rattle.wit_scopes.specs.Passed.wit_items-declared-items-Case.{Case}
use Rattle.wit_scopes.specs.Passed.wit_items-declared-items-TypeDefKind.{TypeDefKind}
use Rattle.wit_scopes.specs.Passed.wit_items-ItemTree.{FieldTree, CaseTree}
use Rattle.wit_scopes.specs.Passed.wit_syntax-AstView as view
use Rattle.wit_scopes.specs.Passed.wit_productions-TypeTree.{TypeOption, opt, a_type}
use Rattle.wit_scopes.specs.Passed.wit_productions-TypeView.{type_tree}
use Rattle.wit_type_names.specs.TypeNames.{names_in_parts, handles_in_parts, definition_parts}
use Rattle.wit_type_names.proofs.type_names.add_definition_names.Goals as goal

pub returns-in-Record-clause-names : goal.returns-in-Record-clause-names
returns-in-Record-clause-names c =
    let part : Field → TypeOption = λ f. a_type (type_tree f.ty) in
    let same : map part c.as_slice.result.now ≡ definition_parts (view.type_def_kind c.args.kind.now) =
    ap (map part) c.as_slice.ensures.value ∙ sym (map-map (λ (f : FieldTree). a_type f.ty) view.field c.in-Record.fields.items) ∙ sym (ap (λ (k : TypeDefKind). definition_parts (view.type_def_kind k)) c.in-Record.is) in
    subst (λ (ps : List TypeOption). OnOk c.add_all.result (map view.id c.add_all.new.found.names.items ≡ map view.id c.args.found.now.names.items ++ names_in_parts ps)) same c.add_all.ensures.names

pub returns-in-Record-clause-handles : goal.returns-in-Record-clause-handles
returns-in-Record-clause-handles c =
    let part : Field → TypeOption = λ f. a_type (type_tree f.ty) in
    let same : map part c.as_slice.result.now ≡ definition_parts (view.type_def_kind c.args.kind.now) =
    ap (map part) c.as_slice.ensures.value ∙ sym (map-map (λ (f : FieldTree). a_type f.ty) view.field c.in-Record.fields.items) ∙ sym (ap (λ (k : TypeDefKind). definition_parts (view.type_def_kind k)) c.in-Record.is) in
    subst (λ (ps : List TypeOption). OnOk c.add_all.result (map view.id c.add_all.new.found.handles.items ≡ map view.id c.args.found.now.handles.items ++ handles_in_parts ps)) same c.add_all.ensures.handles

pub returns-in-Variant-clause-names : goal.returns-in-Variant-clause-names
returns-in-Variant-clause-names c =
    let part : Case → TypeOption = λ x. opt (option_map type_tree x.ty) in
    let same : map part c.as_slice-in-Variant.result.now ≡ definition_parts (view.type_def_kind c.args.kind.now) =
    ap (map part) c.as_slice-in-Variant.ensures.value ∙ sym (map-map (λ (x : CaseTree). opt x.ty) view.case c.in-Variant.cases.items) ∙ sym (ap (λ (k : TypeDefKind). definition_parts (view.type_def_kind k)) c.in-Variant.is) in
    subst (λ (ps : List TypeOption). OnOk c.add_all-in-Variant.result (map view.id c.add_all-in-Variant.new.found.names.items ≡ map view.id c.args.found.now.names.items ++ names_in_parts ps)) same c.add_all-in-Variant.ensures.names

pub returns-in-Variant-clause-handles : goal.returns-in-Variant-clause-handles
returns-in-Variant-clause-handles c =
    let part : Case → TypeOption = λ x. opt (option_map type_tree x.ty) in
    let same : map part c.as_slice-in-Variant.result.now ≡ definition_parts (view.type_def_kind c.args.kind.now) =
    ap (map part) c.as_slice-in-Variant.ensures.value ∙ sym (map-map (λ (x : CaseTree). opt x.ty) view.case c.in-Variant.cases.items) ∙ sym (ap (λ (k : TypeDefKind). definition_parts (view.type_def_kind k)) c.in-Variant.is) in
    subst (λ (ps : List TypeOption). OnOk c.add_all-in-Variant.result (map view.id c.add_all-in-Variant.new.found.handles.items ≡ map view.id c.args.found.now.handles.items ++ handles_in_parts ps)) same c.add_all-in-Variant.ensures.handles
