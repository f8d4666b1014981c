use Rattle.std.proofs.Common.{List, ℕ, ◌∷◌, map, sym, subst, rules}
use Rattle.wit_syntax.specs.AstView as view
use Rattle.wit_scopes.specs.Scopes.{ItemScope, package_scopes}
use Rattle.wit_scopes.specs.declared.scopes.ItemScope.{ItemScope as Scope}
use Rattle.wit_scopes.specs.View as scope_view
use Rattle.wit_scopes.proofs.Outcomes.{if_err, if_ok}
use Rattle.wit_rules.specs.Breaks.{IsKept, IsFaultOf}
use Rattle.wit_checked_lookups.specs.Passed.wit_lookups-Lookups.{LookupsBreak}
use Rattle.wit_built_worlds.specs.Passed.wit_orders-Needs.{item_entry, IsOrderOf, CircleBreaks}
use Rattle.wit_arena.specs.Meaning.{package_text}
use Rattle.wit_placeholders.specs.Passed.wit_foreign-declared-needs-Need.{Need}
use Rattle.wit_placeholders.specs.Passed.wit_foreign-Needs.{NeedTree}
use Rattle.wit_placeholders.specs.Passed.wit_foreign-View as asked
use Rattle.wit_package.specs.Faults.{VersionsBreak, packages_in, OneScopeBreaks}
use Rattle.wit_package.specs.Steps.{AreChecked, IsResolvedIn, Resolves, Refuses}
use Rattle.wit_package.proofs.Stepping.{lookups_refused, needs_same, versions_refused, circle_refused, scope_refused_whole, checked_with, resolves}
use Rattle.wit_package.proofs.resolve.resolved.Goals as goal

pub returns-in_err-check_lookups-clause-cause : goal.returns-in_err-check_lookups-clause-cause
returns-in_err-check_lookups-clause-cause c = λ files is.
    let d = c.args.declared.now in
    if_err c.from_residual.result (IsFaultOf (LookupsBreak (view.package_name d.name) (scope_view.uses d.uses.items) (map scope_view.item_scope d.scopes.items))) (Refuses files) (lookups_refused files d is) (search rules)

pub returns-in_err-check_versions-clause-cause : goal.returns-in_err-check_versions-clause-cause
returns-in_err-check_versions-clause-cause c = λ files is.
    let d = c.args.declared.now in
    let me = view.package_name d.name in
    let ss : List ItemScope = map scope_view.item_scope d.scopes.items in
    let found = c.in_ok-check_lookups.ensures.ok in
    let ns : List NeedTree = asked.needs c.in_ok-needs.needs.items in
    let needed = needs_same files d is ns c.in_ok-needs.ensures.needs in
    if_err c.from_residual-in_err-check_versions.result (IsFaultOf (VersionsBreak (me ∷ packages_in (asked.needs c.as_slice.result.now)))) (Refuses files)
    (λ f h. versions_refused files d is found ns needed f (subst (λ (xs : List Need). IsFaultOf (VersionsBreak (me ∷ packages_in (asked.needs xs))) f) c.as_slice.ensures.value h)) (search rules)

pub returns-in_err-order-clause-cause : goal.returns-in_err-order-clause-cause
returns-in_err-order-clause-cause c = λ files is.
    let d = c.args.declared.now in
    if_err c.from_residual-in_err-order.result (IsFaultOf (CircleBreaks (map item_entry (map scope_view.item_scope c.as_slice-2.result.now)))) (Refuses files)
    (λ f h. circle_refused files d is c.in_ok-check_lookups.ensures.ok f (subst (λ (xs : List Scope). IsFaultOf (CircleBreaks (map item_entry (map scope_view.item_scope xs))) f) c.as_slice-2.ensures.value h)) (search rules)

pub resolved_in-requires : goal.resolved_in-requires
resolved_in-requires c =
    let files = c.requires.0 in
    let is = c.requires.1 in
    let d = c.args.declared.now in
    let me = view.package_name d.name in
    let ss : List ItemScope = map scope_view.item_scope d.scopes.items in
    let found = c.in_ok-check_lookups.ensures.ok in
    let ns : List NeedTree = asked.needs c.in_ok-needs.needs.items in
    let needed = needs_same files d is ns c.in_ok-needs.ensures.needs in
    let versions = subst (λ (xs : List Need). IsKept (VersionsBreak (me ∷ packages_in (asked.needs xs)))) c.as_slice.ensures.value c.in_ok-check_versions.ensures.ok in
    let ordered = subst (λ (xs : List Scope). IsOrderOf (map item_entry (map scope_view.item_scope xs)) c.in_ok-order.order.items × IsKept (CircleBreaks (map item_entry (map scope_view.item_scope xs)))) c.as_slice-2.ensures.value c.in_ok-order.ensures.ok in
    let checked = checked_with files d is found ns needed versions c.in_ok-needs.ensures.uses c.in_ok-order.order.items ordered.0 in
    let as_slices =
    subst (λ (xs : List Need). AreChecked files me d ss (asked.needs xs) c.as_slice-4.result.now) (sym c.as_slice-3.ensures.value)
    (subst (λ (ps : List ℕ). AreChecked files me d ss ns ps) (sym c.as_slice-4.ensures.value) checked) in
    (files, me, as_slices)

pub returns-clause-ok : goal.returns-clause-ok
returns-clause-ok c = λ files is.
    let d = c.args.declared.now in
    let me = view.package_name d.name in
    let ss : List ItemScope = map scope_view.item_scope d.scopes.items in
    let found = c.in_ok-check_lookups.ensures.ok in
    let ns : List NeedTree = asked.needs c.in_ok-needs.needs.items in
    let needed = needs_same files d is ns c.in_ok-needs.ensures.needs in
    let versions = subst (λ (xs : List Need). IsKept (VersionsBreak (me ∷ packages_in (asked.needs xs)))) c.as_slice.ensures.value c.in_ok-check_versions.ensures.ok in
    let ordered = subst (λ (xs : List Scope). IsOrderOf (map item_entry (map scope_view.item_scope xs)) c.in_ok-order.order.items × IsKept (CircleBreaks (map item_entry (map scope_view.item_scope xs)))) c.as_slice-2.ensures.value c.in_ok-order.ensures.ok in
    let checked = checked_with files d is found ns needed versions c.in_ok-needs.ensures.uses c.in_ok-order.order.items ordered.0 in
    let as_slices =
    subst (λ (xs : List Need). AreChecked files me d ss (asked.needs xs) c.as_slice-4.result.now) (sym c.as_slice-3.ensures.value)
    (subst (λ (ps : List ℕ). AreChecked files me d ss ns ps) (sym c.as_slice-4.ensures.value) checked) in
    if_ok c.resolved_in.result (IsResolvedIn files me) (Resolves files) (resolves files d is found ns needed versions ordered.1) (c.resolved_in.ensures.ok files me as_slices)

pub returns-clause-cause : goal.returns-clause-cause
returns-clause-cause c = λ files is.
    let d = c.args.declared.now in
    let me = view.package_name d.name in
    let ss : List ItemScope = map scope_view.item_scope d.scopes.items in
    let found = c.in_ok-check_lookups.ensures.ok in
    let ns : List NeedTree = asked.needs c.in_ok-needs.needs.items in
    let needed = needs_same files d is ns c.in_ok-needs.ensures.needs in
    let versions = subst (λ (xs : List Need). IsKept (VersionsBreak (me ∷ packages_in (asked.needs xs)))) c.as_slice.ensures.value c.in_ok-check_versions.ensures.ok in
    let ordered = subst (λ (xs : List Scope). IsOrderOf (map item_entry (map scope_view.item_scope xs)) c.in_ok-order.order.items × IsKept (CircleBreaks (map item_entry (map scope_view.item_scope xs)))) c.as_slice-2.ensures.value c.in_ok-order.ensures.ok in
    let checked = checked_with files d is found ns needed versions c.in_ok-needs.ensures.uses c.in_ok-order.order.items ordered.0 in
    let as_slices =
    subst (λ (xs : List Need). AreChecked files me d ss (asked.needs xs) c.as_slice-4.result.now) (sym c.as_slice-3.ensures.value)
    (subst (λ (ps : List ℕ). AreChecked files me d ss ns ps) (sym c.as_slice-4.ensures.value) checked) in
    if_err c.resolved_in.result (IsFaultOf (OneScopeBreaks (package_text me) (package_scopes me files))) (Refuses files) (scope_refused_whole files d is found) (c.resolved_in.ensures.cause files me as_slices)
