use Rattle.std.proofs.Common.{◌≡◌, ℕ, ◌<◌, ◌∙◌, ◌∷◌, ◌++◌, [], List, Some, sym, subst, ap, length, set}
use Rattle.std.proofs.lemmas.Option.{same_Some}
use Rattle.wit_types.specs.Passed.wit_order-Places.{row}
use Rattle.wit_types.proofs.Passed.wit_order-Lists.{row_read, row_set_same, row_set_other}
use Rattle.wit_reach.proofs.Sorting.{belongs_one}
use Rattle.wit_reach.proofs.needed.put.Goals as goal

pub returns-in_ok-push-clause-own : goal.returns-in_ok-push-clause-own
returns-in_ok-push-clause-own c = λ j b.
    let rows = c.args.of.now.items in
    let k : ℕ = c.index.result in
    let v = c.push.new.self in
    let some : c.interface_of.result ≡ Some j = c.interface_of.ensures ∙ belongs_one c.args.types.now c.args.id j c.get.result.now c.get.ensures b in
    let same : k ≡ j = c.index.ensures ∙ same_Some c.in-Some.interface j (sym c.in-Some.is ∙ some) in
    let l : k < length rows = c.requires.owner c.args.id k c.get.result.now c.get.ensures (sym c.interface_of.ensures ∙ some ∙ ap Some (sym same)) in
    let was : row rows k ≡ c.index_mut.result.now.items = row_read rows k c.index_mut.result.now l c.index_mut.ensures.value in
    subst (λ (z : ℕ). row (set rows k v) z ≡ row rows z ++ c.args.id ∷ []) same
    (row_set_same rows k v l ∙ c.in_ok-push.ensures.items ∙ ap (λ (r : List ℕ). r ++ c.args.id ∷ []) (sym was))

pub returns-in_ok-push-clause-others : goal.returns-in_ok-push-clause-others
returns-in_ok-push-clause-others c = λ j n.
    let is : c.interface_of.result ≡ Some c.index.result = c.in-Some.is ∙ ap Some (sym c.index.ensures) in
    row_set_other c.args.of.now.items c.index.result j c.push.new.self
    (λ e. n (c.get.result.now, c.get.ensures, sym c.interface_of.ensures ∙ is ∙ ap Some (sym e)))
