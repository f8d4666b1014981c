use Rattle.std.proofs.Common.{◌≡◌, ◌<◌, ℕ, List, ◌⊎◌, ◌++◌, ◌∷◌, [], sym, subst, ◌∙◌, ap, length}
use Rattle.std.proofs.lemmas.Result.{IfOk-weaker}
use Rattle.std.specs.Prelude.{reverse, Vec}
use Rattle.std.specs.declared.alloc.Global.{Global}
use Rattle.wit_types.specs.declared.interface.TypeDef.{TypeDef}
use Rattle.wit_types.specs.Passed.wit_order-Order.{Has}
use Rattle.wit_reach.specs.Paths.{AreEnds}
use Rattle.wit_reach.specs.Walk.{bottom, Walk}
use Rattle.wit_reach.specs.Made.{Sees}
use Rattle.wit_reach.proofs.Lists.{none_left}
use Rattle.wit_reach.proofs.Ends.{walk_begins, walk_step, walk_falls, walk_ends}
use Rattle.wit_reach.proofs.Seen.{seen_backward}
use Rattle.wit_reach.proofs.made.reached.Goals as goal

pub loop-index-init : goal.loop-index-init
loop-index-init c =
    let ds : List TypeDef = c.args.types.now in
    subst (λ (l : List ℕ). Walk (length ds) (Sees c.args.sight.now ds) c.args.starts.now c.add_all.new.set.keys l) (sym c.new-falling.ensures.items)
    (walk_begins (length ds) (Sees c.args.sight.now ds) c.args.starts.now c.add_all.new.set.keys c.requires.there c.in_ok-add_all.ensures.new
    (λ i h. subst (λ (l : List ℕ). Has l i ⊎ Has c.args.starts.now i) c.new-left.ensures.empty (c.in_ok-add_all.ensures.only i h)))

pub add_parts-requires : goal.add_parts-requires
add_parts-requires c =
    let ds : List TypeDef = c.args.types.now in
    let falls = walk_falls (length ds) (Sees c.args.sight.now ds) c.args.starts.now c.loop-index.left.keys c.pop_last.new.self.keys c.loop-index.falling.items c.in-Some.index c.in-Some.ensures.removal c.loop-index.invariant in
    subst (λ (z : ℕ). z < length ds) (sym c.from_index-id.ensures) falls.0

pub loop-index-preserved : goal.loop-index-preserved
loop-index-preserved c =
    let ds : List TypeDef = c.args.types.now in
    let k = c.in_ok-add_parts.ensures in
    let e : c.from_index-id.result ≡ c.in-Some.index = c.from_index-id.ensures in
    let left : List ℕ = c.pop_last.new.self.keys in
    subst (λ (l : List ℕ). Walk (length ds) (Sees c.args.sight.now ds) c.args.starts.now c.add_parts.new.set.keys l) (sym (c.in_ok-push.ensures.items ∙ ap (λ (z : ℕ). c.loop-index.falling.items ++ z ∷ []) e))
    (walk_step (length ds) (Sees c.args.sight.now ds) c.args.starts.now c.loop-index.left.keys left c.add_parts.new.set.keys c.loop-index.falling.items c.in-Some.index
    (seen_backward c.args.sight.now ds c.requires.backward) c.in-Some.ensures.removal c.in-Some.ensures.all_below k.was
    (λ j u. k.new j (subst (λ (z : ℕ). Sees c.args.sight.now ds z j) (sym e) u))
    (λ j h. subst (λ (z : ℕ). Has left j ⊎ Sees c.args.sight.now ds z j) e (k.only j h)) c.loop-index.invariant)

pub loop-index-smaller : goal.loop-index-smaller
loop-index-smaller c =
    let ds : List TypeDef = c.args.types.now in
    let falls = walk_falls (length ds) (Sees c.args.sight.now ds) c.args.starts.now c.loop-index.left.keys c.pop_last.new.self.keys c.loop-index.falling.items c.in-Some.index c.in-Some.ensures.removal c.loop-index.invariant in
    subst (λ (l : List ℕ). bottom (length ds) l < bottom (length ds) c.loop-index.falling.items) (sym (c.in_ok-push.ensures.items ∙ ap (λ (z : ℕ). c.loop-index.falling.items ++ z ∷ []) c.from_index-id.ensures)) falls.1

pub returns : goal.returns
returns c =
    let ds : List TypeDef = c.args.types.now in
    let empty : c.loop-index.left.keys ≡ [] = none_left c.pop_last.result c.loop-index.left.keys c.pop_last.ensures.variant c.in_default.is in
    let ends = walk_ends (length ds) (Sees c.args.sight.now ds) c.args.starts.now c.loop-index.left.keys c.loop-index.falling.items empty c.loop-index.invariant in
    IfOk-weaker c.turned.result (λ (order : Vec ℕ Global). order.items ≡ reverse c.as_slice.result.now) (λ (order : Vec ℕ Global). AreEnds (Sees c.args.sight.now ds) (Has c.args.starts.now) order.items)
    (λ order e. subst (λ (l : List ℕ). AreEnds (Sees c.args.sight.now ds) (Has c.args.starts.now) l) (sym (e ∙ ap reverse c.as_slice.ensures.value)) ends) c.turned.ensures
