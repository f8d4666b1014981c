use Rattle.std.proofs.lemmas.Result.{on_ok_weaker}
use Rattle.std.proofs.Common.{◌≡◌, ℕ, ◌<◌, List, [], ◌∷◌, refl, sym, subst, ap, ◌∙◌, arith, length, inl}
use Rattle.wit_order.specs.Order.{Has}
use Rattle.wit_closures.proofs.Next.{single, pushed_one, pushed_more, closed_after}
use Rattle.wit_closures.proofs.closures.Closures.push.Goals as goal

pub push_more-requires : goal.push_more-requires
push_more-requires c =
    let one : c.args.deps.now ≡ c.dep-item.result ∷ [] = single c.args.deps.now c.dep-item.result c.in-len1.len_at_least c.in-len1.len_below c.dep-item.is in
    let there : c.dep-item.result < length c.args.self.now = c.requires c.dep-item.result (subst (λ (l : List ℕ). Has l c.dep-item.result) (sym one) (inl refl)) in
    let all = ap (λ (v : List (List ℕ)). length v) c.self.view_is in
    let e = c.index.ensures in
    omega (arith, there, all, e)

pub invariant_of-self : goal.invariant_of-self
invariant_of-self c =
    let v : List (List ℕ) = c.args.self.now in
    let deps : List ℕ = c.args.deps.now in
    let one : deps ≡ c.dep-item.result ∷ [] = single deps c.dep-item.result c.in-len1.len_at_least c.in-len1.len_below c.dep-item.is in
    closed_after c.push_more.result v c.self.inside.lists c.push_more.new.self deps c.self.view_is c.self.invariant c.requires
    (on_ok_weaker c.push_more.result
    (λ p. pushed_one v c.self.inside.lists c.push_more.new.self deps c.dep-item.result c.index.result c.from_index-id.result c.self.view_is c.self.invariant one c.requires c.index.ensures (c.from_index-id.ensures ∙ c.len.ensures) p)
    c.push_more.ensures.ok)
    c.push_more.ensures.err

pub returns-in-len1-clause-ok : goal.returns-in-len1-clause-ok
returns-in-len1-clause-ok c =
    let v : List (List ℕ) = c.args.self.now in
    let deps : List ℕ = c.args.deps.now in
    let one : deps ≡ c.dep-item.result ∷ [] = single deps c.dep-item.result c.in-len1.len_at_least c.in-len1.len_below c.dep-item.is in
    on_ok_weaker c.push_more.result
    (λ p. pushed_one v c.self.inside.lists c.push_more.new.self deps c.dep-item.result c.index.result c.from_index-id.result c.self.view_is c.self.invariant one c.requires c.index.ensures (c.from_index-id.ensures ∙ c.len.ensures) p)
    c.push_more.ensures.ok

pub invariant_of-self-2 : goal.invariant_of-self-2
invariant_of-self-2 c =
    let v : List (List ℕ) = c.args.self.now in
    let deps : List ℕ = c.args.deps.now in
    closed_after c.push.result v c.self.inside.lists c.push.new.self deps c.self.view_is c.self.invariant c.requires
    (on_ok_weaker c.push.result
    (λ p. pushed_more v c.self.inside.lists c.push.new.self deps c.in_ok-found.found.items c.as_slice.result.now c.from_index-id.result c.self.view_is c.self.invariant c.requires c.in_ok-found.ensures.rising c.in_ok-found.ensures.same c.as_slice.ensures.value (c.from_index-id.ensures ∙ c.len.ensures) p)
    c.push.ensures.ok)
    c.push.ensures.err

pub returns-clause-ok : goal.returns-clause-ok
returns-clause-ok c =
    let v : List (List ℕ) = c.args.self.now in
    let deps : List ℕ = c.args.deps.now in
    on_ok_weaker c.push.result
    (λ p. pushed_more v c.self.inside.lists c.push.new.self deps c.in_ok-found.found.items c.as_slice.result.now c.from_index-id.result c.self.view_is c.self.invariant c.requires c.in_ok-found.ensures.rising c.in_ok-found.ensures.same c.as_slice.ensures.value (c.from_index-id.ensures ∙ c.len.ensures) p)
    c.push.ensures.ok
