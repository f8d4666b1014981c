use Rattle.std.proofs.Common.{ℕ, ◌+◌, List, [], length, length-append, refl, sym, subst, ap, ◌∙◌}
use Rattle.wit_scopes.specs.Scopes.{WorldScope}
use Rattle.wit_scopes.specs.View as scope_view
use Rattle.wit_rules.specs.Breaks.{IsKept}
use Rattle.wit_resolved_scopes.specs.Texts.{InterfaceText, member_texts, labelled_texts}
use Rattle.wit_arena.proofs.Extending.{extends_self, extends_through}
use Rattle.wit_interfaces.specs.Labelled.{TextsBreak}
use Rattle.wit_interfaces.proofs.Viewing.{world_member_at, past_members}
use Rattle.wit_interfaces.proofs.Labelling.{TextsSoFar, no_texts_so_far, all_texts, member_breaks, member_ready, may_add_member, next_member, first_texts, next_texts}
use Rattle.wit_interfaces.proofs.labelled.add_labelled.Goals as goal

pub loop-member-init : goal.loop-member-init
loop-member-init c =
    let now = c.args.building.now in
    let all : List InterfaceText = labelled_texts (scope_view.world_scope c.args.world.now) in
    (subst (λ (ids : List ℕ). TextsSoFar now.known now.types now.interfaces all [] now.types now.interfaces ids) (sym c.new-ids.ensures.items) (no_texts_so_far now.known now.types now.interfaces all), refl, c.requires.natures, extends_self now.types, ap length c.new-ids.ensures.items)

pub add_member_text-requires-clause-ready : goal.add_member_text-requires-clause-ready
add_member_text-requires-clause-ready c =
    let w : WorldScope = scope_view.world_scope c.args.world.now in
    let n : ℕ = c.loop-member.member-index in
    let there = world_member_at c.args.world.now c.as_slice-member-items.result.now c.as_slice-member-items.ensures.value n c.member-item.result c.loop-member-test.true c.member-item.is in
    member_ready w n (scope_view.world_member c.member-item.result) there c.args.building.now.known c.loop-member.building.known c.loop-member.invariant.1 c.requires.ready

pub returns-in-Err-clause-cause : goal.returns-in-Err-clause-cause
returns-in-Err-clause-cause c = λ d may.
    let w : WorldScope = scope_view.world_scope c.args.world.now in
    let n : ℕ = c.loop-member.member-index in
    let old = c.args.building.now in
    let so_far = c.loop-member.building in
    let there = world_member_at c.args.world.now c.as_slice-member-items.result.now c.as_slice-member-items.ensures.value n c.member-item.result c.loop-member-test.true c.member-item.is in
    let m = scope_view.world_member c.member-item.result in
    member_breaks w n m there d c.in-Err.fault
    (c.in-Err.ensures.cause d w.name.text (may_add_member w n m there old.known so_far.known c.loop-member.invariant.1 old.types old.interfaces so_far.types so_far.interfaces c.loop-member.ids.items c.loop-member.invariant.0 d may))

pub loop-member-preserved : goal.loop-member-preserved
loop-member-preserved c =
    let w : WorldScope = scope_view.world_scope c.args.world.now in
    let n : ℕ = c.loop-member.member-index in
    let old = c.args.building.now in
    let so_far = c.loop-member.building in
    let new = c.add_member_text.new in
    let there = world_member_at c.args.world.now c.as_slice-member-items.result.now c.as_slice-member-items.ensures.value n c.member-item.result c.loop-member-test.true c.member-item.is in
    let m = scope_view.world_member c.member-item.result in (
      next_member w n m there old.known so_far.known c.loop-member.invariant.1 old.types old.interfaces so_far.types so_far.interfaces c.loop-member.ids.items c.loop-member.invariant.0 new.building.types new.building.interfaces new.ids.items
          (λ d may. c.in_default.ensures.adds d w.name.text may) (λ d may. c.in_default.ensures.kept d w.name.text may),
      c.in_default.ensures.known ∙ c.loop-member.invariant.1,
      c.in_default.ensures.natures,
      extends_through old.types so_far.types new.building.types c.loop-member.invariant.3 c.in_default.ensures.grown,
      c.in_default.ensures.so_many w.name.text
          ∙ ap (λ (k : ℕ). k + length (member_texts w.name.text m)) c.loop-member.invariant.4
          ∙ sym (ap length (next_texts w n m there) ∙ length-append (first_texts w n) (member_texts w.name.text m)),
    )

pub returns-clause-so_many : goal.returns-clause-so_many
returns-clause-so_many c =
    let w : WorldScope = scope_view.world_scope c.args.world.now in
    let n : ℕ = c.loop-member.member-index in
    let past = past_members c.args.world.now c.as_slice-member-items.result.now c.as_slice-member-items.ensures.value n c.loop-member-test.false in
    c.loop-member.invariant.4 ∙ ap length (all_texts w n past)

pub returns-clause-kept : goal.returns-clause-kept
returns-clause-kept c = λ d may.
    let w : WorldScope = scope_view.world_scope c.args.world.now in
    let n : ℕ = c.loop-member.member-index in
    let past = past_members c.args.world.now c.as_slice-member-items.result.now c.as_slice-member-items.ensures.value n c.loop-member-test.false in
    subst (λ (ts : List InterfaceText). IsKept (TextsBreak d ts)) (all_texts w n past) (c.loop-member.invariant.0.kept d may)
