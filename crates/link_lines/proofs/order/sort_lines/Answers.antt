use Rattle.std.proofs.Common.{rules}
use Rattle.std.specs.Ordering.{is_lt}
use Rattle.std.proofs.lemmas.Result.{on_ok_weaker}
use Rattle.std.proofs.lemmas.List.Sorted.{IsPermutation-map, answers_always, ranks_by}
use Rattle.link_lines.specs.Line.{link_value}
use Rattle.link_lines.specs.Order.{line_cmp}
use Rattle.link_lines.proofs.Sorted.{line_cmp_total, sorted_map}
use Rattle.link_lines.proofs.order.sort_lines.Goals as goal

pub returns-clause-permutation : goal.returns-clause-permutation
returns-clause-permutation c = IsPermutation-map link_value _ _ c.sort_by.ensures.permutation

pub returns-clause-sorted : goal.returns-clause-sorted
returns-clause-sorted c =
    on_ok_weaker c.sort_by.result (λ up. sorted_map link_value line_cmp _ (up (λ a b. is_lt (line_cmp (link_value a) (link_value b))) (ranks_by line_cmp_total link_value) (answers_always _ _ _ (λ f a r g h. search rules)))) c.sort_by.ensures.sorted

pub returns-clause-stable : goal.returns-clause-stable
returns-clause-stable c =
    c.sort_by.ensures.stable (λ a b. is_lt (line_cmp (link_value a) (link_value b))) (ranks_by line_cmp_total link_value) (answers_always _ _ _ (λ f a r g h. search rules))
