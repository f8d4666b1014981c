use Rattle.std.proofs.Common.{◌≡◌, ℕ, List, [], ◌∷◌, ◌++◌, length, ap, ◌∙◌, arith, append_assoc, refl}
use Rattle.wit_closures.proofs.Parting.{always_err, kept_view, pushed_view, pushed_within, new_part}
use Rattle.wit_closures.proofs.lists.Lists.push.Goals as goal

pub returns-in_err-append-clause-err : goal.returns-in_err-append-clause-err
returns-in_err-append-clause-err c = always_err c.from_residual.result _ (kept_view c.self.inside.items.items c.append.new.items.items c.append.ensures.grown.0 c.self.inside.ranges.items c.self.inside.ranges.items c.args.self.now c.append.ensures.grown.1 refl c.self.invariant c.self.view_is)

pub returns-in_err-push-clause-err : goal.returns-in_err-push-clause-err
returns-in_err-push-clause-err c = always_err c.from_residual-in_err-push.result _ (kept_view c.self.inside.items.items c.push.new.self.items c.args.list.now c.self.inside.ranges.items c.self.inside.ranges.items c.args.self.now (c.in_err-push.ensures.items ∙ c.in_ok-append.ensures.ok) refl c.self.invariant c.self.view_is)

pub returns-in_err-push-2-clause-err : goal.returns-in_err-push-2-clause-err
returns-in_err-push-2-clause-err c = always_err c.from_residual-in_err-push-2.result _ (kept_view c.self.inside.items.items c.push.new.self.items (c.args.list.now ++ c.args.last ∷ []) c.self.inside.ranges.items c.push-2.new.self.items c.args.self.now ((c.in_ok-push.ensures.items ∙ ap (λ (xs : List ℕ). xs ++ c.args.last ∷ []) c.in_ok-append.ensures.ok) ∙ append_assoc c.self.inside.items.items c.args.list.now (c.args.last ∷ [])) c.in_err-push-2.ensures.items c.self.invariant c.self.view_is)

pub invariant_of-self-2 : goal.invariant_of-self-2
invariant_of-self-2 c = pushed_within c.self.inside.items.items c.push.new.self.items (c.args.list.now ++ c.args.last ∷ []) c.self.inside.ranges.items c.push-2.new.self.items (record { start = c.len-start.result; end = c.len-end.result }) ((c.in_ok-push.ensures.items ∙ ap (λ (xs : List ℕ). xs ++ c.args.last ∷ []) c.in_ok-append.ensures.ok) ∙ append_assoc c.self.inside.items.items c.args.list.now (c.args.last ∷ [])) c.in_ok-push-2.ensures.items c.self.invariant (let s = (let e = c.len-start.ensures in let o = c.self.inside.items.ok.0 in let r : c.len-start.result ≡ length c.self.inside.items.items = omega (arith, e, o) in r) in omega (arith, s)) (let e = c.len-end.ensures in let o = c.push.new.self.ok.0 in let r : c.len-end.result ≡ length c.push.new.self.items = omega (arith, e, o) in r)

pub returns-clause-ok : goal.returns-clause-ok
returns-clause-ok c = pushed_view c.self.inside.items.items c.push.new.self.items (c.args.list.now ++ c.args.last ∷ []) c.self.inside.ranges.items c.push-2.new.self.items (record { start = c.len-start.result; end = c.len-end.result }) (c.args.list.now ++ c.args.last ∷ []) c.args.self.now ((c.in_ok-push.ensures.items ∙ ap (λ (xs : List ℕ). xs ++ c.args.last ∷ []) c.in_ok-append.ensures.ok) ∙ append_assoc c.self.inside.items.items c.args.list.now (c.args.last ∷ [])) c.in_ok-push-2.ensures.items c.self.invariant c.self.view_is (new_part c.self.inside.items.items c.args.list.now c.push.new.self.items c.args.last c.len-start.result c.len-end.result (c.in_ok-push.ensures.items ∙ ap (λ (xs : List ℕ). xs ++ c.args.last ∷ []) c.in_ok-append.ensures.ok) (let e = c.len-start.ensures in let o = c.self.inside.items.ok.0 in let r : c.len-start.result ≡ length c.self.inside.items.items = omega (arith, e, o) in r) (let e = c.len-end.ensures in let o = c.push.new.self.ok.0 in let r : c.len-end.result ≡ length c.push.new.self.items = omega (arith, e, o) in r))
