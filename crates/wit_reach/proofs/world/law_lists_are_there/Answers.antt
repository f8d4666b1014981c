use Rattle.std.proofs.Common.{ℕ, ◌<◌, List, inl, inr, subst, length, arith}
use Rattle.wit_types.specs.Passed.wit_order-Order.{Has}
use Rattle.wit_reach.specs.Lists.{item_types}
use Rattle.wit_reach.proofs.There.{used_within, labelled_has, listed_has}
use Rattle.wit_reach.proofs.world.law_lists_are_there.Goals as goal

pub returns : goal.returns
returns c = λ ds g world lists are owners there back. record {
  imports = λ i h. there.imports i (listed_has world.imports.entries i (subst (λ (l : List ℕ). Has l i) are.imports h));
  used = λ j h. elim ((are.used j).0 h) as (λ _. j < length g) [
    | inl type_used ↦ used_within (length g) ds (item_types world) j owners type_used
    | inr by_label ↦ (let below : j < by_label.0 = back by_label.0 j by_label.2 in
        let within : by_label.0 < length g = there.imports by_label.0 (labelled_has world.imports.entries by_label.0 by_label.1) in
        omega arith)
  ];
  exports = λ i h. there.exports i (subst (λ (l : List ℕ). Has l i) are.exports h);
}
