use Rattle.std.proofs.Common.{◌≡◌, ℕ, ◌<◌, ◌≤◌, ◌+◌, ◌∷◌, [], ◌∙◌, inl, inr, List, sym, subst, ap, arith, length, length-append}
use Rattle.std.proofs.lemmas.Bool.{cases_lt}
use Rattle.wit_order.specs.Order.{Has}
use Rattle.wit_order.specs.Places.{row, Rows}
use Rattle.wit_order.proofs.Lists.{row_more, row_read, row_past}
use Rattle.wit_order.proofs.places.turned.Goals as goal

pub loop-row-preserved : goal.loop-row-preserved
loop-row-preserved c =
    let e = c.in_ok-push.ensures.items in
    let grown : length c.push.new.self.items ≡ length c.loop-row.turned.items + 1 = ap (λ (t : Rows). length t) e ∙ length-append c.loop-row.turned.items (c.new.result ∷ []) in
    record {
      size = omega (arith, grown, c.loop-row.invariant.size);
      empty = λ j. subst (λ (t : Rows). row t j ≡ []) (sym e) (row_more c.loop-row.turned.items c.new.result j c.new.ensures.items c.loop-row.invariant.empty);
    }

pub add_to-requires : goal.add_to-requires
add_to-requires c = λ j h.
    let e : row c.args.needs.now c.loop-place.place ≡ c.as_slice.result.now =
    row_read c.args.needs.now c.loop-place.place c.index-needs-place.result c.loop-place-test.true c.index-needs-place.is ∙ sym c.as_slice.ensures.value in
    let l = c.requires c.loop-place.place j (subst (λ (w : List ℕ). Has w j) (sym e) h) in
    omega (arith, l, c.loop-place.invariant.size)

pub loop-place-preserved : goal.loop-place-preserved
loop-place-preserved c =
    let p : ℕ = c.loop-place.place in
    let g : Rows = c.args.needs.now in
    let t : Rows = c.add_to.new.turned.items in
    let e : row g p ≡ c.as_slice.result.now =
    row_read g p c.index-needs-place.result c.loop-place-test.true c.index-needs-place.is ∙ sym c.as_slice.ensures.value in
    let k = c.in_ok-add_to.ensures in
    let inv = c.loop-place.invariant in
    record {
      size = k.size ∙ inv.size;
      all = λ i j l h. elim (cases_lt i p) as (λ _. Has (row t j) i) [
        | inl less ↦ k.kept i j (inv.all i j less h)
        | inr more ↦
            let same : p ≡ i = (let l2 : i < p + 1 = l in omega arith) in
            subst (λ (z : ℕ). Has (row t j) z) same (k.all j (subst (λ (w : List ℕ). Has w j) e (subst (λ (z : ℕ). Has (row g z) j) (sym same) h)))
      ];
      only = λ i j h. elim (k.only i j h) as (λ _. (i < p + 1) × Has (row g i) j) [
        | inl was ↦ (let r = inv.only i j was in ((let l : i < p = r.0 in omega arith), r.1))
        | inr new ↦ (let same : i ≡ p = new.0 in ((omega arith), subst (λ (z : ℕ). Has (row g z) j) (sym same) (subst (λ (w : List ℕ). Has w j) (sym e) new.1)))
      ];
    }

pub returns : goal.returns
returns c =
    let inv = c.loop-place.invariant in
    let g : Rows = c.args.needs.now in
    record {
      all = λ i j h. inv.all i j (let l : i < length g = row_past g i j h in let e : length g ≤ c.loop-place.place = c.loop-place-test.false in omega arith) h;
      only = λ i j h. (inv.only i j h).1;
      within = λ i j h. (let l = row_past g j i (inv.only j i h).1 in l);
      size = inv.size;
    }
