use Rattle.std.proofs.Common.{◌≡◌, ◌<◌, ℕ, List, sym, subst, ◌∙◌, ap, length, ◌++◌, ◌∷◌, [], ◌⊎◌, rules}
use Rattle.wit_types.specs.Passed.wit_order-Order.{Has}
use Rattle.wit_types.specs.Passed.wit_order-Places.{row}
use Rattle.std.specs.Prelude.{reverse}
use Rattle.wit_reach.specs.Paths.{AreEnds}
use Rattle.wit_reach.specs.Reach.{Uses}
use Rattle.wit_reach.specs.Walk.{Walk, bottom}
use Rattle.wit_types.proofs.Passed.wit_order-Lists.{row_read}
use Rattle.wit_reach.proofs.Lists.{none_left}
use Rattle.wit_reach.proofs.Ends.{walk_begins, walk_step, walk_falls, walk_ends}
use Rattle.wit_reach.proofs.reach.reached.Goals as goal

pub bounds-uses-interface : goal.bounds-uses-interface
bounds-uses-interface c = (walk_falls (length c.args.uses.now) (Uses c.args.uses.now) c.args.starts.now c.loop-interface.left.keys c.pop_last.new.self.keys c.loop-interface.falling.items c.in-Some.interface c.in-Some.ensures.removal c.loop-interface.invariant).0

pub offset_bounds-uses-interface : goal.offset_bounds-uses-interface
offset_bounds-uses-interface c =
    let l : c.in-Some.interface < length c.args.uses.now = (walk_falls (length c.args.uses.now) (Uses c.args.uses.now) c.args.starts.now c.loop-interface.left.keys c.pop_last.new.self.keys c.loop-interface.falling.items c.in-Some.interface c.in-Some.ensures.removal c.loop-interface.invariant).0 in
    search (rules, l)

pub loop-interface-init : goal.loop-interface-init
loop-interface-init c =
    subst (λ (l : List ℕ). Walk (length c.args.uses.now) (Uses c.args.uses.now) c.args.starts.now c.add_all.new.set.keys l) (sym c.new-falling.ensures.items)
    (walk_begins (length c.args.uses.now) (Uses c.args.uses.now) c.args.starts.now c.add_all.new.set.keys c.requires.there c.in_ok-add_all.ensures.new
    (λ i h. subst (λ (l : List ℕ). Has l i ⊎ Has c.args.starts.now i) c.new-left.ensures.empty (c.in_ok-add_all.ensures.only i h)))

pub loop-interface-preserved : goal.loop-interface-preserved
loop-interface-preserved c =
    let g = c.args.uses.now in
    let i : ℕ = c.in-Some.interface in
    let falls = walk_falls (length g) (Uses g) c.args.starts.now c.loop-interface.left.keys c.pop_last.new.self.keys c.loop-interface.falling.items i c.in-Some.ensures.removal c.loop-interface.invariant in
    let e : row g i ≡ c.as_slice.result.now = row_read g i c.index-uses-interface.result falls.0 c.index-uses-interface.is ∙ sym c.as_slice.ensures.value in
    let k = c.in_ok-add_all-2.ensures in
    subst (λ (l : List ℕ). Walk (length g) (Uses g) c.args.starts.now c.add_all-in-Some.new.set.keys l) (sym (c.in_ok-push.ensures.items ∙ ap (λ (z : ℕ). c.loop-interface.falling.items ++ z ∷ []) c.from_index.ensures))
    (walk_step (length g) (Uses g) c.args.starts.now c.loop-interface.left.keys c.pop_last.new.self.keys c.add_all-in-Some.new.set.keys c.loop-interface.falling.items i
    c.requires.backward c.in-Some.ensures.removal c.in-Some.ensures.all_below k.was
    (λ j h. k.new j (subst (λ (l : List ℕ). Has l j) e h))
    (λ j h. subst (λ (l : List ℕ). Has c.pop_last.new.self.keys j ⊎ Has l j) (sym e) (k.only j h)) c.loop-interface.invariant)

pub loop-interface-smaller : goal.loop-interface-smaller
loop-interface-smaller c =
    let falls = walk_falls (length c.args.uses.now) (Uses c.args.uses.now) c.args.starts.now c.loop-interface.left.keys c.pop_last.new.self.keys c.loop-interface.falling.items c.in-Some.interface c.in-Some.ensures.removal c.loop-interface.invariant in
    subst (λ (l : List ℕ). bottom (length c.args.uses.now) l < bottom (length c.args.uses.now) c.loop-interface.falling.items) (sym (c.in_ok-push.ensures.items ∙ ap (λ (z : ℕ). c.loop-interface.falling.items ++ z ∷ []) c.from_index.ensures)) falls.1

pub returns : goal.returns
returns c =
    let empty : c.loop-interface.left.keys ≡ [] = none_left c.pop_last.result c.loop-interface.left.keys c.pop_last.ensures.variant c.in_default.is in
    let ends = walk_ends (length c.args.uses.now) (Uses c.args.uses.now) c.args.starts.now c.loop-interface.left.keys c.loop-interface.falling.items empty c.loop-interface.invariant in
    let e : c.in_ok-rising.rising.items ≡ reverse c.loop-interface.falling.items = c.in_ok-rising.ensures ∙ ap reverse c.as_slice-2.ensures.value in
    subst (λ (l : List ℕ). AreEnds (Uses c.args.uses.now) (Has c.args.starts.now) l) (sym e) ends
