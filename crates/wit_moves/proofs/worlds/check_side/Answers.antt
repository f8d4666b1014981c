use Rattle.std.proofs.Common.{◌≡◌, ℕ, true, false, Some, sym, subst, ap, ◌∙◌, arith, below_more}
use Rattle.std.proofs.lemmas.Option.{same_Some, slice_get_within}
use Rattle.std.specs.Prelude.{slice_get}
use Rattle.wit_features.specs.Passed.wit_types-declared-world-WorldItem.{WorldItem}
use Rattle.wit_features.specs.Passed.wit_types-declared-world_key-WorldKey.{WorldKey}
use Rattle.wit_moves.specs.Worlds.{item_stays, is_item_placed}
use Rattle.wit_moves.proofs.worlds.check_side.Goals as goal
use Rattle.wit_moves.proofs.worlds.check_side.Goals.{else-item_stays-via-then-item_stays+else-not-has_item, else-item_stays-via-else-item_stays}

pub returns-then-not-has_item-clause-cause : goal.returns-then-not-has_item-clause-cause
returns-then-not-has_item-clause-cause c =
    let one = c.item_at-item.result.now in
    record {
      place = c.loop-place.place;
      one = (c.item_at-item.ensures.0, one);
      there = c.item_at-item.ensures.1;
      stays = sym c.item_stays.ensures ∙ c.if-item_stays.true;
      unplaced = sym c.has_item.ensures ∙ (let t = c.if-not-has_item.true in cc);
      stands = sym c.span.ensures;
    }

pub returns-clause-ok : goal.returns-clause-ok
returns-clause-ok c = λ at b. (
    let within = slice_get_within c.args.side.now.entries b.place b.one b.there in
    let past = c.loop-place-test.false in
    let size = c.len-place-end.ensures.len in
    c.loop-place.invariant b.place b.one (omega (arith, within, past, size)) b.there b.stays b.unplaced)

pub loop-place-preserved : goal.loop-place-preserved
loop-place-preserved c k e less at stays unplaced =
    let one = c.item_at-item.result.now in
    let features = c.args.features.now in
    let places = c.args.places.now in
    let interfaces = c.args.interfaces.now in
    below_more (λ (n : ℕ). (d : WorldKey × WorldItem) → slice_get c.args.side.now.entries n ≡ Some d → item_stays features places d.1 ≡ true → is_item_placed places interfaces d.1 ≡ false → ⊥) c.loop-place.place
    (λ n l d a s u. c.loop-place.invariant n d l a s u)
    (λ d a s u. (
    let same : d.1 ≡ one = ap (λ (z : WorldKey × WorldItem). z.1) (same_Some d (c.item_at-item.ensures.0, one) (sym a ∙ c.item_at-item.ensures.1)) in
    let s2 : item_stays features places one ≡ true = subst (λ (z : WorldItem). item_stays features places z ≡ true) same s in
    let u2 : is_item_placed places interfaces one ≡ false = subst (λ (z : WorldItem). is_item_placed places interfaces z ≡ false) same u in
    (elim c.else-item_stays.branch as (λ _. ⊥) [
      | else-item_stays-via-then-item_stays+else-not-has_item w ↦ (let has : w.has_item.result ≡ true = w.if-not-has_item.false in let is = w.has_item.ensures in cc)
      | else-item_stays-via-else-item_stays w ↦ (let none = w.if-item_stays.false in let is = c.item_stays.ensures in cc)
    ]))) k less e at stays unplaced
