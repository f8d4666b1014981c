use Rattle.std.proofs.Common.{◌≡◌, ℕ, List, sym, subst, ◌++◌, ◌↔◌}
use Rattle.wit_types.specs.Passed.wit_order-Order.{Has}
use Rattle.wit_reach.specs.Reach.{lists_of, Lists, IsNeededOutside, Uses}
use Rattle.wit_reach.specs.Paths.{AreEnds}
use Rattle.wit_reach.proofs.Ends.{start_list, no_conflict, elaborates}
use Rattle.wit_reach.proofs.reach.elaborate.Goals as goal

pub reached-requires-2-clause-there : goal.reached-requires-2-clause-there
reached-requires-2-clause-there c =
    let w : Lists = lists_of c.args.world.now in
    let third : (i : ℕ) → Has c.in_ok-starts.starts.items i ↔ IsNeededOutside c.args.uses.now w.exports i =
    subst (λ (l : List ℕ). (i : ℕ) → Has c.in_ok-starts.starts.items i ↔ IsNeededOutside c.args.uses.now l i) c.as_slice-2.ensures.value c.in_ok-starts.ensures in
    let joined : c.as_slice-7.result.now ≡ (c.in_ok-starts.starts.items ++ w.imports) ++ w.used = let a = c.as_slice-7.ensures.value in let b = c.in_ok-extend_from_slice-2.ensures.items in let d = c.in_ok-extend_from_slice.ensures.items in let e = c.as_slice-5.ensures.value in let f = c.as_slice-6.ensures.value in cc in
    (start_list c.args.uses.now w c.in_ok-starts.starts.items c.as_slice-7.result.now c.requires.backward c.requires.there joined third).0

pub returns-clause-ok : goal.returns-clause-ok
returns-clause-ok c =
    let g = c.args.uses.now in
    let w : Lists = lists_of c.args.world.now in
    let third : (i : ℕ) → Has c.in_ok-starts.starts.items i ↔ IsNeededOutside c.args.uses.now w.exports i =
    subst (λ (l : List ℕ). (i : ℕ) → Has c.in_ok-starts.starts.items i ↔ IsNeededOutside c.args.uses.now l i) c.as_slice-2.ensures.value c.in_ok-starts.ensures in
    let joined : c.as_slice-7.result.now ≡ (c.in_ok-starts.starts.items ++ w.imports) ++ w.used = let a = c.as_slice-7.ensures.value in let b = c.in_ok-extend_from_slice-2.ensures.items in let d = c.in_ok-extend_from_slice.ensures.items in let e = c.as_slice-5.ensures.value in let f = c.as_slice-6.ensures.value in cc in
    let starts = start_list g w c.in_ok-starts.starts.items c.as_slice-7.result.now c.requires.backward c.requires.there joined third in
    let ends : AreEnds (Uses g) (Has c.in_ok-starts.starts.items) c.in_ok-outside.outside.items =
    subst (λ (l : List ℕ). AreEnds (Uses g) (Has l) c.in_ok-outside.outside.items) c.as_slice-3.ensures.value c.in_ok-outside.ensures in
    let none = c.in_default.ensures.none in
    elaborates g w c.as_slice-7.result.now c.in_ok-order.order.items c.requires.backward starts.1 starts.2 c.in_ok-order.ensures
    (no_conflict g w c.in_ok-starts.starts.items c.in_ok-outside.outside.items c.add_all.new.set.keys third ends
    (λ i h. c.in_ok-add_all.ensures.new i (subst (λ (l : List ℕ). Has l i) (sym c.as_slice.ensures.value) h))
    (λ i h k. none i (subst (λ (l : List ℕ). Has l i) (sym c.as_slice-4.ensures.value) h) k))
