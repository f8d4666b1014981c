use Rattle.std.proofs.Common.{◌≡◌, List, map, ap, subst, ◌∙◌}
use Rattle.wit_items.specs.declared.items.ToplevelUse.{ToplevelUse}
use Rattle.wit_syntax.specs.Ast.{ToplevelUseTree}
use Rattle.wit_syntax.specs.AstView as view
use Rattle.wit_scopes.specs.declared.scopes.ItemScope.{ItemScope as Item}
use Rattle.wit_scopes.specs.Scopes.{ItemScope}
use Rattle.wit_scopes.specs.View.{item_scope, uses}
use Rattle.wit_scopes.proofs.Outcomes.{on_ok}
use Rattle.wit_rules.specs.Breaks.{IsKept, AnyBreaks}
use Rattle.wit_checked_lookups.specs.AskView.{ask}
use Rattle.wit_lookups.specs.Lookups.{AskTree, ItemsBreak, FileBreaks, AsksBreak, asks_in}
use Rattle.wit_lookups.specs.Names.{Name, known_names}
use Rattle.wit_checked_lookups.proofs.OwnKinds.{lookups_kept}
use Rattle.wit_checked_lookups.proofs.files.check_lookups.Goals as goal

pub returns-clause-ok : goal.returns-clause-ok
returns-clause-ok c =
    let me = view.package_name c.args.declared.now.name in
    let tops : List (List ToplevelUseTree) = uses c.args.declared.now.uses.items in
    let items = c.args.declared.now.scopes.items in
    let seen : map item_scope c.as_slice-scopes.result.now ≡ map item_scope items = ap (λ (ss : List Item). map item_scope ss) c.as_slice-scopes.ensures.value in
    let used : uses c.as_slice-files.result.now ≡ tops = ap uses c.as_slice-files.ensures.value in
    let known : c.as_slice.result.now ≡ map known_names tops = c.as_slice.ensures.value ∙ c.in_ok-known.ensures ∙ ap (map known_names) used in
    let asks : map ask c.as_slice-2.result.now ≡ asks_in (map item_scope items) = ap (map ask) c.as_slice-2.ensures.value ∙ c.in_ok-asks.ensures ∙ ap asks_in seen in
    let kept_items : IsKept (ItemsBreak (map item_scope items) (map known_names tops)) =
    subst (λ (ss : List ItemScope). IsKept (ItemsBreak ss (map known_names tops))) seen (subst (λ (all : List (List Name)). IsKept (ItemsBreak (map item_scope c.as_slice-scopes.result.now) all)) known c.in_ok-check_items.ensures.ok) in
    let kept_files : IsKept (AnyBreaks (FileBreaks me (map item_scope items)) tops) =
    subst (λ (ss : List ItemScope). IsKept (AnyBreaks (FileBreaks me ss) tops)) seen (subst (λ (us : List (List ToplevelUseTree)). IsKept (AnyBreaks (FileBreaks me (map item_scope c.as_slice-scopes.result.now)) us)) used c.in_ok-check_files.ensures.ok) in
    on_ok c.check_asks.result (λ h. lookups_kept me tops (map item_scope items) kept_items kept_files (subst (λ (as' : List AskTree). IsKept (AsksBreak as')) asks h)) c.check_asks.ensures.ok
