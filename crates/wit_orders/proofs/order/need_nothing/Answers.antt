use Rattle.std.proofs.Common.{◌≡◌, ◌<◌, ℕ, [], map, length, Some, arith, ap, sym, ◌∙◌, below_more}
use Rattle.std.specs.Prelude.{◌==◌, slice_get, option_map}
use Rattle.std.proofs.lemmas.List.{length-map}
use Rattle.std.proofs.lemmas.Option.{slice_get-map, slice_get_within, same_Some}
use Rattle.wit_rules.proofs.Places.{read_at}
use Rattle.wit_orders.specs.Needs.{Entry}
use Rattle.wit_type_names.specs.Passed.wit_syntax-AstView as view
use Rattle.wit_orders.specs.View as seen
use Rattle.wit_orders.proofs.Rows.{none_of, some_of}
use Rattle.wit_orders.proofs.order.need_nothing.Goals as goal

pub returns-then-not-is_empty-clause-no : goal.returns-then-not-is_empty-clause-no
returns-then-not-is_empty-clause-no c e none =
    let k : ℕ = c.loop-entry.entry-index in
    let there : slice_get (map seen.entry c.args.entries.now) k ≡ Some (seen.entry c.entry-item.result) =
    slice_get-map seen.entry c.args.entries.now k ∙ ap (option_map seen.entry) (read_at c.args.entries.now k c.entry-item.result c.loop-entry-test.true c.entry-item.is) in
    some_of view.id c.entry-item.result.needs.items (ap (λ ids. length ids == 0) (sym c.as_slice.ensures.value) ∙ sym c.is_empty.ensures ∙ c.if-not-is_empty.true) (none k (seen.entry c.entry-item.result) there)

pub loop-entry-preserved : goal.loop-entry-preserved
loop-entry-preserved c i one l there =
    below_more (λ (j : ℕ). (one : Entry) → slice_get (map seen.entry c.args.entries.now) j ≡ Some one → one.needs ≡ []) c.loop-entry.entry-index (λ j less one at. c.loop-entry.invariant j one less at)
    (λ one at.
    let k : ℕ = c.loop-entry.entry-index in
    let here : slice_get (map seen.entry c.args.entries.now) k ≡ Some (seen.entry c.entry-item.result) =
    slice_get-map seen.entry c.args.entries.now k ∙ ap (option_map seen.entry) (read_at c.args.entries.now k c.entry-item.result c.loop-entry-test.true c.entry-item.is) in
    let same : seen.entry c.entry-item.result ≡ one = same_Some (seen.entry c.entry-item.result) one (sym here ∙ at) in
    ap (λ (x : Entry). x.needs) (sym same) ∙ none_of view.id c.entry-item.result.needs.items (ap (λ ids. length ids == 0) (sym c.as_slice.ensures.value) ∙ sym c.is_empty.ensures ∙ c.if-not-is_empty.false)) i l one there

pub returns-clause-yes : goal.returns-clause-yes
returns-clause-yes c e i one there =
    let l : i < length (map seen.entry c.args.entries.now) = slice_get_within (map seen.entry c.args.entries.now) i one there in
    let all : length (map seen.entry c.args.entries.now) ≡ length c.args.entries.now = length-map c.args.entries.now seen.entry in
    c.loop-entry.invariant i one (omega (arith, l, all, c.loop-entry-test.false)) there
