use Rattle.std.proofs.Common.{◌≡◌, ◌∷◌, ◌++◌, [], List, map, take, ◌+◌, sym, ap, subst, ◌∙◌}
use Rattle.std.proofs.lemmas.List.{map_push}
use Rattle.wit_order.proofs.Lists.{has_get}
use Rattle.wit_type_names.specs.Passed.wit_scopes-Members.{MemberTree}
use Rattle.wit_type_names.specs.Passed.wit_scopes-View as scope_view
use Rattle.wit_orders.specs.Needs.{AreAt}
use Rattle.wit_orders.proofs.Rows.{at_more}
use Rattle.wit_orders.proofs.types.members_at.Goals as goal

pub member_at-requires : goal.member_at-requires
member_at-requires c = c.requires _ (has_get c.args.places.now c.loop-place.place-index c.loop-place-test.true)

pub loop-place-preserved : goal.loop-place-preserved
loop-place-preserved c =
    let there : MemberTree = scope_view.member c.member_at.result.now in
    let before : List MemberTree = scope_view.members c.loop-place.found.items in
    let grown : scope_view.members c.push.new.self.items ≡ before ++ there ∷ [] =
    ap (map scope_view.member) c.in_ok-push.ensures.items ∙ map_push scope_view.member c.loop-place.found.items c.in_ok-copy.copy ∙ ap (λ (m : MemberTree). before ++ m ∷ []) c.in_ok-copy.ensures.cases in
    subst (λ (fs : List MemberTree). AreAt (scope_view.members c.args.members.now) (take (c.loop-place.place-index + 1) c.args.places.now) fs) (sym grown)
    (at_more (scope_view.members c.args.members.now) c.args.places.now c.loop-place.place-index before there c.loop-place-test.true c.loop-place.invariant c.member_at.ensures)
