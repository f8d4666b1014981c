use Rattle.std.proofs.Common.{◌≡◌, ◌<◌, ◌≤◌, sym, ◌∙◌, length, arith, subst, ℕ, List, refl, get_or}
use Rattle.std.proofs.lemmas.List.{get_or_default}
use Rattle.wit_order.specs.Order.{Has}
use Rattle.wit_order.specs.Places.{row}
use Rattle.wit_order.proofs.Lists.{row_read}
use Rattle.wit_order.proofs.Steps.{settles_by}
use Rattle.wit_order.proofs.sorter.Sorter.settle.Goals as goal

pub first_unset-cursor-requires-clause-row : goal.first_unset-cursor-requires-clause-row
first_unset-cursor-requires-clause-row c =
    let e : row c.args.needs.now c.args.place ≡ c.as_slice-wanted.result.now =
    row_read c.args.needs.now c.args.place c.index-needs-place.result c.requires.place c.index-needs-place.is ∙ sym c.as_slice-wanted.ensures.value in
    λ j h.
    let below = c.requires.below c.args.place j (subst (λ (r : List ℕ). Has r j) (sym e) h) in
    subst (λ (r : List _). j < length r) (sym c.as_slice.ensures.value) below

pub first_unset-cursor-requires-clause-from : goal.first_unset-cursor-requires-clause-from
first_unset-cursor-requires-clause-from c =
    let e : row c.args.needs.now c.args.place ≡ c.as_slice-wanted.result.now =
    row_read c.args.needs.now c.args.place c.index-needs-place.result c.requires.place c.index-needs-place.is ∙ sym c.as_slice-wanted.ensures.value in
    let l : c.args.place < length c.args.self.now.cursors.items = omega (arith, c.requires.place, c.requires.cursors) in
    let d : get_or c.args.self.now.cursors.items c.args.place 0 ≡ c.index.result.now =
    get_or_default c.args.self.now.cursors.items c.args.place 0 c.index.result.now l ∙ sym c.index.ensures in
    let u : get_or c.args.self.now.cursors.items c.args.place 0 ≤ length (row c.args.needs.now c.args.place) = c.requires.upto in
    subst (λ (r : List ℕ). c.index.result.now ≤ length r) e (subst (λ (x : ℕ). x ≤ length (row c.args.needs.now c.args.place)) d u)

pub returns-in_ok-insert : goal.returns-in_ok-insert
returns-in_ok-insert c =
    let e : c.as_slice-wanted.result.now ≡ row c.args.needs.now c.args.place =
    sym (row_read c.args.needs.now c.args.place c.index-needs-place.result c.requires.place c.index-needs-place.is ∙ sym c.as_slice-wanted.ensures.value) in
    let l : c.args.place < length c.args.self.now.cursors.items = omega (arith, c.requires.place, c.requires.cursors) in
    settles_by c.args.needs.now c.args.place c.args.self.now _ c.first_unset-cursor.result c.as_slice-wanted.result.now c.as_slice.result.now c.index.result.now
    e c.as_slice.ensures.value c.index.ensures l refl refl
    c.first_unset-cursor.ensures.from c.first_unset-cursor.ensures.within c.first_unset-cursor.ensures.passed c.first_unset-cursor.ensures.stops
    (λ _. c.in_ok-insert.ensures.keys)
    (λ h. absurd (omega (arith, h, c.if-cursor-wanted.true)))

pub returns-else-cursor-wanted : goal.returns-else-cursor-wanted
returns-else-cursor-wanted c =
    let e : c.as_slice-wanted.result.now ≡ row c.args.needs.now c.args.place =
    sym (row_read c.args.needs.now c.args.place c.index-needs-place.result c.requires.place c.index-needs-place.is ∙ sym c.as_slice-wanted.ensures.value) in
    let l : c.args.place < length c.args.self.now.cursors.items = omega (arith, c.requires.place, c.requires.cursors) in
    settles_by c.args.needs.now c.args.place c.args.self.now _ c.first_unset-cursor.result c.as_slice-wanted.result.now c.as_slice.result.now c.index.result.now
    e c.as_slice.ensures.value c.index.ensures l refl refl
    c.first_unset-cursor.ensures.from c.first_unset-cursor.ensures.within c.first_unset-cursor.ensures.passed c.first_unset-cursor.ensures.stops
    (λ h. absurd (c.if-cursor-wanted.false h))
    (λ _. refl)
