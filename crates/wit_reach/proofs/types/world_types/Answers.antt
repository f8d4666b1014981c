use Rattle.std.proofs.Common.{◌≡◌, ◌<◌, ℕ, List, ◌++◌, inl, inr, sym, subst, ◌∙◌, ap, length}
use Rattle.std.proofs.lemmas.Result.{IfOk-weaker}
use Rattle.std.specs.Prelude.{Vec}
use Rattle.std.specs.declared.alloc.Global.{Global}
use Rattle.wit_types.specs.declared.interface.TypeDef.{TypeDef}
use Rattle.wit_types.specs.declared.interface.TypeOwner.TheVariants as belongs
use Rattle.wit_types.specs.Passed.wit_order-Order.{Has}
use Rattle.wit_types.proofs.Passed.wit_order-Lists.{has_was}
use Rattle.wit_reach.specs.Paths.{AreEnds}
use Rattle.wit_reach.specs.Ids.{side_ids}
use Rattle.wit_reach.specs.Types.{UsesLocal, IsLocalAt, IsOfItem, AreLocalOf, AreWorldTypes}
use Rattle.wit_reach.specs.Made.{IsMadeOfWithin}
use Rattle.wit_reach.proofs.Ends.{ends_below}
use Rattle.wit_reach.proofs.Lists.{has_append, has_parts}
use Rattle.wit_reach.proofs.Local.{sides_there, same_ends, local_ends}
use Rattle.wit_reach.proofs.types.world_types.Goals as goal

pub made_of_within-requires-clause-there : goal.made_of_within-requires-clause-there
made_of_within-requires-clause-there c =
    let imports : List ℕ = side_ids c.args.world.now.imports.entries in
    let exports : List ℕ = side_ids c.args.world.now.exports.entries in
    let e : c.as_slice.result.now ≡ imports ++ exports = c.as_slice.ensures.value ∙ c.in_ok-add_side-2.ensures ∙ ap (λ (l : List ℕ). l ++ exports) (c.in_ok-add_side.ensures ∙ ap (λ (l : List ℕ). l ++ imports) c.new-ids.ensures.items) in
    sides_there c.args.types.now imports exports c.as_slice.result.now e c.requires.there.0 c.requires.there.1

pub local_of-requires-clause-there : goal.local_of-requires-clause-there
local_of-requires-clause-there c =
    let ds : List TypeDef = c.args.types.now in
    let imports : List ℕ = side_ids c.args.world.now.imports.entries in
    let exports : List ℕ = side_ids c.args.world.now.exports.entries in
    let e : c.as_slice.result.now ≡ imports ++ exports = c.as_slice.ensures.value ∙ c.in_ok-add_side-2.ensures ∙ ap (λ (l : List ℕ). l ++ exports) (c.in_ok-add_side.ensures ∙ ap (λ (l : List ℕ). l ++ imports) c.new-ids.ensures.items) in
    subst (λ (l : List ℕ). (i : ℕ) → Has l i → i < length ds) (sym c.as_slice-2.ensures.value)
    (ends_below (IsMadeOfWithin (belongs.World c.args.id) ds) (length ds) c.as_slice.result.now c.in_ok-seen.seen.items
    (λ i j u. c.requires.backward i j (u.0, u.1, u.3)) (sides_there ds imports exports c.as_slice.result.now e c.requires.there.0 c.requires.there.1) c.in_ok-seen.ensures)

pub returns : goal.returns
returns c =
    let ds : List TypeDef = c.args.types.now in
    let w : ℕ = c.args.id in
    let ids : List ℕ = c.as_slice.result.now in
    let imports : List ℕ = side_ids c.args.world.now.imports.entries in
    let exports : List ℕ = side_ids c.args.world.now.exports.entries in
    let e : ids ≡ imports ++ exports = c.as_slice.ensures.value ∙ c.in_ok-add_side-2.ensures ∙ ap (λ (l : List ℕ). l ++ exports) (c.in_ok-add_side.ensures ∙ ap (λ (l : List ℕ). l ++ imports) c.new-ids.ensures.items) in
    let FromIds : ℕ → Type 0 = λ s. Has ids s × IsLocalAt w ds s in
    let Start : ℕ → Type 0 = λ s. IsOfItem c.args.world.now s × IsLocalAt w ds s in
    let there : (s : ℕ) → FromIds s → Start s = λ s h. (has_parts imports exports s (subst (λ (l : List ℕ). Has l s) e h.0), h.1) in
    let back : (s : ℕ) → Start s → FromIds s = λ s h.
    (subst (λ (l : List ℕ). Has l s) (sym e) (elim h.0 as (λ _. Has (imports ++ exports) s) [ inl a ↦ has_was imports exports s a | inr b ↦ has_append imports exports s b ]), h.1) in
    let seen : AreEnds (IsMadeOfWithin (belongs.World w) ds) (Has ids) c.as_slice-2.result.now = subst (AreEnds (IsMadeOfWithin (belongs.World w) ds) (Has ids)) (sym c.as_slice-2.ensures.value) c.in_ok-seen.ensures in
    IfOk-weaker c.local_of.result (λ (order : Vec ℕ Global). AreLocalOf w ds c.as_slice-2.result.now order.items) (λ (order : Vec ℕ Global). AreWorldTypes w ds c.args.world.now order.items)
    (λ order found. same_ends (UsesLocal w ds) FromIds Start order.items there back (local_ends w ds ids c.as_slice-2.result.now order.items seen found)) c.local_of.ensures
