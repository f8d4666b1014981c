use Rattle.std.proofs.Common.{◌≡◌, ◌<◌, ◌∙◌, length, arith, length-set, true, false, sym, subst, ℕ, get_or}
use Rattle.std.proofs.lemmas.List.{get_or_default}
use Rattle.wit_order.specs.Sorter.{Follows, is_set}
use Rattle.wit_order.specs.Places.{IsCircle}
use Rattle.wit_order.proofs.Lists.{unset_falls}
use Rattle.wit_order.proofs.Steps.{circle_reads, seen_more, circle_found}
use Rattle.wit_order.proofs.sorter.Sorter.on_circle.Goals as goal

pub index-at-requires : goal.index-at-requires
index-at-requires c =
    let k : c.index-in-loop-seen.result.now < length c.index-needs-at.result.items =
    (circle_reads c.args.needs.now c.args.self.now c.loop-seen.at c.index-in-loop-seen.result.now c.index-needs-at.result
    c.requires.settled c.requires.none c.loop-seen.invariant.place c.loop-seen.invariant.unset c.index-in-loop-seen.ensures c.index-needs-at.is).0 in
    omega (arith, k)

pub loop-seen-preserved : goal.loop-seen-preserved
loop-seen-preserved c =
    let k = (circle_reads c.args.needs.now c.args.self.now c.loop-seen.at c.index-in-loop-seen.result.now c.index-needs-at.result
    c.requires.settled c.requires.none c.loop-seen.invariant.place c.loop-seen.invariant.unset c.index-in-loop-seen.ensures c.index-needs-at.is).1
    c.index-at.result.now c.index-at.ensures in
    let l : c.loop-seen.at < length c.loop-seen.seen.items = omega (arith, c.loop-seen.invariant.place, c.loop-seen.invariant.size) in
    record {
      place = c.requires.below c.loop-seen.at c.index-at.result.now k.0;
      unset = k.1;
      size = length-set c.loop-seen.seen.items c.loop-seen.at true ∙ c.loop-seen.invariant.size;
      leads = seen_more (length c.args.needs.now) (Follows c.args.needs.now c.args.self.now) c.loop-seen.seen.items c.loop-seen.at c.index-at.result.now l k.2 c.loop-seen.invariant.leads;
    }

pub loop-seen-smaller : goal.loop-seen-smaller
loop-seen-smaller c =
    let l : c.loop-seen.at < length c.loop-seen.seen.items = omega (arith, c.loop-seen.invariant.place, c.loop-seen.invariant.size) in
    unset_falls c.loop-seen.seen.items c.loop-seen.at l
    (get_or_default c.loop-seen.seen.items c.loop-seen.at false c.index.result.now l ∙ sym c.index.ensures ∙ c.loop-seen-test.true)

pub returns : goal.returns
returns c =
    let inv = c.loop-seen.invariant in
    let seen : is_set c.loop-seen.seen.items c.loop-seen.at ≡ true =
    get_or_default c.loop-seen.seen.items c.loop-seen.at false c.index.result.now (omega (arith, inv.place, inv.size)) ∙ sym c.index.ensures ∙ c.loop-seen-test.false in
    let path = inv.leads c.loop-seen.at seen in
    let need : get_or c.args.self.now.cursors.items c.loop-seen.at 0 ≡ c.index-2.result.now =
    get_or_default c.args.self.now.cursors.items c.loop-seen.at 0 c.index-2.result.now (omega (arith, inv.place, c.requires.settled.cursors)) ∙ sym c.index-2.ensures in
    subst (λ (k : ℕ). IsCircle c.args.needs.now c.loop-seen.at k) need (circle_found c.args.needs.now c.args.self.now c.loop-seen.at path.0 path.1)
