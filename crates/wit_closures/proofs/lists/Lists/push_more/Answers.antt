use Rattle.std.proofs.Common.{◌≡◌, ◌<◌, ℕ, List, [], ◌∷◌, ◌++◌, length, sym, ap, ◌∙◌, arith, append_assoc, refl}
use Rattle.std.specs.Prelude.{slice_get}
use Rattle.wit_closures.specs.Lists.{part}
use Rattle.wit_closures.proofs.Parting.{always_err, kept_view, pushed_view, pushed_within, new_part, more_part, parts_long, part_at, range_has}
use Rattle.wit_closures.proofs.lists.Lists.push_more.Goals as goal

pub returns-in_err-push-2-clause-err : goal.returns-in_err-push-2-clause-err
returns-in_err-push-2-clause-err c = always_err c.from_residual-in_err-push-2.result _ (kept_view c.self.inside.items.items c.push.new.self.items (c.args.last ∷ []) c.self.inside.ranges.items c.push-then-range-len.new.self.items c.args.self.now c.in_ok-push.ensures.items c.in_err-push-2.ensures.items c.self.invariant c.self.view_is)

pub invariant_of-self-then-range-len : goal.invariant_of-self-then-range-len
invariant_of-self-then-range-len c =
    let w = (c.self.invariant c.index-range.result.now (range_has c.self.inside.ranges.items c.args.index c.index-range.result.now (let long = parts_long c.self.inside.items.items c.self.inside.ranges.items in let all = ap (λ (v : List (List ℕ)). length v) c.self.view_is in let l = c.requires in let r : c.args.index < length c.self.inside.ranges.items = omega (arith, long, all, l) in r) c.index-range.ensures)) in
    pushed_within c.self.inside.items.items c.push.new.self.items (c.args.last ∷ []) c.self.inside.ranges.items c.push-then-range-len.new.self.items (record { start = c.index-range.result.now.start; end = c.len-end.result }) c.in_ok-push.ensures.items c.in_ok-push-2.ensures.items c.self.invariant (let a = w.rising in let b = w.within in omega (arith, a, b)) (let e = c.len-end.ensures in let o = c.push.new.self.ok.0 in let r : c.len-end.result ≡ length c.push.new.self.items = omega (arith, e, o) in r)

pub returns-then-range-len-clause-ok : goal.returns-then-range-len-clause-ok
returns-then-range-len-clause-ok c = (
  (part c.self.inside.items.items c.index-range.result.now),
  (ap (λ (v : List (List ℕ)). slice_get v c.args.index) (sym c.self.view_is) ∙ part_at c.self.inside.items.items c.self.inside.ranges.items c.args.index c.index-range.result.now (let long = parts_long c.self.inside.items.items c.self.inside.ranges.items in let all = ap (λ (v : List (List ℕ)). length v) c.self.view_is in let l = c.requires in let r : c.args.index < length c.self.inside.ranges.items = omega (arith, long, all, l) in r) c.index-range.ensures),
  pushed_view c.self.inside.items.items c.push.new.self.items (c.args.last ∷ []) c.self.inside.ranges.items c.push-then-range-len.new.self.items (record { start = c.index-range.result.now.start; end = c.len-end.result }) ((part c.self.inside.items.items c.index-range.result.now) ++ c.args.last ∷ []) c.args.self.now c.in_ok-push.ensures.items c.in_ok-push-2.ensures.items c.self.invariant c.self.view_is
      (more_part c.self.inside.items.items c.push.new.self.items c.args.last c.index-range.result.now c.len-end.result c.in_ok-push.ensures.items (c.self.invariant c.index-range.result.now (range_has c.self.inside.ranges.items c.args.index c.index-range.result.now (let long = parts_long c.self.inside.items.items c.self.inside.ranges.items in let all = ap (λ (v : List (List ℕ)). length v) c.self.view_is in let l = c.requires in let r : c.args.index < length c.self.inside.ranges.items = omega (arith, long, all, l) in r) c.index-range.ensures)) (let t = c.if-range-len.true in let e = c.len.ensures in let o = c.self.inside.items.ok.0 in let r : c.index-range.result.now.end ≡ length c.self.inside.items.items = omega (arith, t, e, o) in r) (let e = c.len-end.ensures in let o = c.push.new.self.ok.0 in let r : c.len-end.result ≡ length c.push.new.self.items = omega (arith, e, o) in r)),
)

pub repeat-requires : goal.repeat-requires
repeat-requires c = (c.self.invariant c.index-range.result.now (range_has c.self.inside.ranges.items c.args.index c.index-range.result.now (let long = parts_long c.self.inside.items.items c.self.inside.ranges.items in let all = ap (λ (v : List (List ℕ)). length v) c.self.view_is in let l = c.requires in let r : c.args.index < length c.self.inside.ranges.items = omega (arith, long, all, l) in r) c.index-range.ensures))

pub returns-in_err-push-3-clause-err : goal.returns-in_err-push-3-clause-err
returns-in_err-push-3-clause-err c = always_err c.from_residual-in_err-push-3.result _ (kept_view c.self.inside.items.items c.push-2.new.self.items (part c.self.inside.items.items c.index-range.result.now) c.self.inside.ranges.items c.self.inside.ranges.items c.args.self.now (c.in_err-push-3.ensures.items ∙ c.in_ok-repeat.ensures.ok) refl c.self.invariant c.self.view_is)

pub returns-in_err-push-4-clause-err : goal.returns-in_err-push-4-clause-err
returns-in_err-push-4-clause-err c = always_err c.from_residual-in_err-push-4.result _ (kept_view c.self.inside.items.items c.push-2.new.self.items ((part c.self.inside.items.items c.index-range.result.now) ++ c.args.last ∷ []) c.self.inside.ranges.items c.push-3.new.self.items c.args.self.now ((c.in_ok-push-3.ensures.items ∙ ap (λ (xs : List ℕ). xs ++ c.args.last ∷ []) c.in_ok-repeat.ensures.ok) ∙ append_assoc c.self.inside.items.items (part c.self.inside.items.items c.index-range.result.now) (c.args.last ∷ [])) c.in_err-push-4.ensures.items c.self.invariant c.self.view_is)

pub invariant_of-self-2 : goal.invariant_of-self-2
invariant_of-self-2 c = pushed_within c.self.inside.items.items c.push-2.new.self.items ((part c.self.inside.items.items c.index-range.result.now) ++ c.args.last ∷ []) c.self.inside.ranges.items c.push-3.new.self.items (record { start = c.len-start.result; end = c.len-end-2.result }) ((c.in_ok-push-3.ensures.items ∙ ap (λ (xs : List ℕ). xs ++ c.args.last ∷ []) c.in_ok-repeat.ensures.ok) ∙ append_assoc c.self.inside.items.items (part c.self.inside.items.items c.index-range.result.now) (c.args.last ∷ [])) c.in_ok-push-4.ensures.items c.self.invariant (let s = (let e = c.len-start.ensures in let o = c.self.inside.items.ok.0 in let r : c.len-start.result ≡ length c.self.inside.items.items = omega (arith, e, o) in r) in omega (arith, s)) (let e = c.len-end-2.ensures in let o = c.push-2.new.self.ok.0 in let r : c.len-end-2.result ≡ length c.push-2.new.self.items = omega (arith, e, o) in r)

pub returns-clause-ok : goal.returns-clause-ok
returns-clause-ok c = (
  (part c.self.inside.items.items c.index-range.result.now),
  (ap (λ (v : List (List ℕ)). slice_get v c.args.index) (sym c.self.view_is) ∙ part_at c.self.inside.items.items c.self.inside.ranges.items c.args.index c.index-range.result.now (let long = parts_long c.self.inside.items.items c.self.inside.ranges.items in let all = ap (λ (v : List (List ℕ)). length v) c.self.view_is in let l = c.requires in let r : c.args.index < length c.self.inside.ranges.items = omega (arith, long, all, l) in r) c.index-range.ensures),
  pushed_view c.self.inside.items.items c.push-2.new.self.items ((part c.self.inside.items.items c.index-range.result.now) ++ c.args.last ∷ []) c.self.inside.ranges.items c.push-3.new.self.items (record { start = c.len-start.result; end = c.len-end-2.result }) ((part c.self.inside.items.items c.index-range.result.now) ++ c.args.last ∷ []) c.args.self.now ((c.in_ok-push-3.ensures.items ∙ ap (λ (xs : List ℕ). xs ++ c.args.last ∷ []) c.in_ok-repeat.ensures.ok) ∙ append_assoc c.self.inside.items.items (part c.self.inside.items.items c.index-range.result.now) (c.args.last ∷ [])) c.in_ok-push-4.ensures.items c.self.invariant c.self.view_is
      (new_part c.self.inside.items.items (part c.self.inside.items.items c.index-range.result.now) c.push-2.new.self.items c.args.last c.len-start.result c.len-end-2.result (c.in_ok-push-3.ensures.items ∙ ap (λ (xs : List ℕ). xs ++ c.args.last ∷ []) c.in_ok-repeat.ensures.ok) (let e = c.len-start.ensures in let o = c.self.inside.items.ok.0 in let r : c.len-start.result ≡ length c.self.inside.items.items = omega (arith, e, o) in r) (let e = c.len-end-2.ensures in let o = c.push-2.new.self.ok.0 in let r : c.len-end-2.result ≡ length c.push-2.new.self.items = omega (arith, e, o) in r)),
)
