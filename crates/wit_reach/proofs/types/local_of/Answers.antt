use Rattle.std.proofs.Common.{◌≡◌, ℕ, ◌+◌, ◌∷◌, ◌++◌, [], ◌∙◌, List, sym, subst, ap, take, true, false}
use Rattle.std.proofs.lemmas.List.{take_more}
use Rattle.wit_types.specs.declared.interface.TypeDef.{TypeDef}
use Rattle.wit_reach.specs.Types.{AreLocalOf, IsLocalAt}
use Rattle.wit_reach.proofs.Lists.{item_has, rising_before}
use Rattle.wit_reach.proofs.Local.{local_more, local_less}
use Rattle.wit_reach.proofs.types.local_of.Goals as goal
use Rattle.wit_reach.proofs.types.local_of.Goals.{then-is_local+in_ok-push, else-is_local}

pub is_local-requires : goal.is_local-requires
is_local-requires c = c.requires.there c.id-item.result (item_has c.args.ids.now c.loop-id.id-index c.id-item.result c.loop-id-test.true c.id-item.is)

pub loop-id-preserved : goal.loop-id-preserved
loop-id-preserved c =
    let ids : List ℕ = c.args.ids.now in
    let ds : List TypeDef = c.args.types.now in
    let w : ℕ = c.args.world in
    let k : ℕ = c.loop-id.id-index in
    let r : ℕ = c.id-item.result in
    let found : List ℕ = c.loop-id.found.items in
    let done : take (k + 1) ids ≡ take k ids ++ r ∷ [] = take_more ids k r c.loop-id-test.true ∙ ap (λ (z : ℕ). take k ids ++ z ∷ []) (sym c.id-item.is) in
    subst (λ (l : List ℕ). AreLocalOf w ds l c.if-is_local.found.items) (sym done) (elim c.if-is_local.branch as (λ _. AreLocalOf w ds (take k ids ++ r ∷ []) c.if-is_local.found.items) [
      | then-is_local+in_ok-push b ↦
          let local : IsLocalAt w ds r = c.is_local.ensures.0 b.if-is_local.true in
          subst (AreLocalOf w ds (take k ids ++ r ∷ [])) (sym (ap (λ v. v.items) b.found-is ∙ b.in_ok-push.ensures.items))
          (local_more w ds (take k ids) found r (λ y h. rising_before ids k r y c.requires.rising c.loop-id-test.true c.id-item.is h) local c.loop-id.invariant)
      | else-is_local b ↦
          subst (AreLocalOf w ds (take k ids ++ r ∷ [])) (sym (ap (λ v. v.items) b.found-is))
          (local_less w ds (take k ids) found r (λ local. (let t : c.is_local.result ≡ true = c.is_local.ensures.1 local in let f : c.is_local.result ≡ false = b.if-is_local.false in cc)) c.loop-id.invariant)
    ])
