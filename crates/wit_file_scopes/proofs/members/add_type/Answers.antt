use Rattle.std.proofs.Common.{◌≡◌, ◌∷◌, ◌++◌, [], List, map, append_assoc, ap, ◌∙◌}
use Rattle.wit_items.specs.ItemTree.{GatedTree, ResourceFuncTree, TypeDefKindTree}
use Rattle.wit_syntax.specs.AstView as view
use Rattle.wit_scopes.specs.Members as spec
use Rattle.wit_scopes.specs.Members.{MemberTree}
use Rattle.wit_scopes.specs.View as seen
use Rattle.wit_scopes.proofs.Outcomes.{on_ok}
use Rattle.wit_file_scopes.proofs.members.add_type.Goals as goal

pub returns : goal.returns
returns c =
    let front = seen.front c.args.front c.args.span in
    let name = view.id c.args.def.name in
    let before : List MemberTree = seen.members c.args.found.now.items in
    let own = λ (k : TypeDefKindTree). spec.member_of front name (spec.defined k) in
    let all = λ (gs : List (GatedTree ResourceFuncTree)). map (spec.resource_member name) gs in
    let funcs : List (GatedTree ResourceFuncTree) = map (view.gated view.resource_func) c.parted-kind.result.1.items in
    let kind : TypeDefKindTree = spec.without_functions (view.type_def_kind c.args.def.kind) in
    let defined : seen.members c.add_definition.new.found.items ≡ before ++ own kind ∷ [] = c.in_ok-add_definition.ensures ∙ ap (λ k. before ++ own k ∷ []) c.parted-kind.ensures.kind in
    on_ok c.add_functions.result (λ h. h ∙ ap (λ ms. ms ++ all funcs) defined ∙ append_assoc before (own kind ∷ []) (all funcs) ∙ ap (λ gs. before ++ own kind ∷ all gs) c.parted-kind.ensures.functions) c.add_functions.ensures
