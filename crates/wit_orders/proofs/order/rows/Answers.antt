use Rattle.std.proofs.Common.{◌≡◌, ℕ, [], ◌∷◌, ◌++◌, map, take, Some, ap, sym, ◌∙◌}
use Rattle.std.specs.Prelude.{slice_get, option_map}
use Rattle.std.proofs.lemmas.List.{map_push}
use Rattle.std.proofs.lemmas.Option.{slice_get-map}
use Rattle.wit_rules.proofs.Places.{read_at, taken}
use Rattle.wit_type_names.specs.Passed.wit_syntax-AstView as view
use Rattle.wit_orders.specs.Needs.{labels}
use Rattle.wit_orders.specs.Rows.{row_of, places_in}
use Rattle.wit_orders.specs.declared.order.Entry.{Entry as Named}
use Rattle.wit_orders.specs.View as seen
use Rattle.wit_orders.proofs.order.rows.Goals as goal

pub loop-entry-preserved : goal.loop-entry-preserved
loop-entry-preserved c =
    let k : ℕ = c.loop-entry.entry-index in
    let one : Named = c.entry-item.result in
    let there : slice_get c.args.entries.now k ≡ Some one = read_at c.args.entries.now k one c.loop-entry-test.true c.entry-item.is in
    let here : slice_get (map seen.entry c.args.entries.now) k ≡ Some (seen.entry one) = slice_get-map seen.entry c.args.entries.now k ∙ ap (option_map seen.entry) there in
    let row : c.in_ok-row.row.items ≡ row_of (labels (map seen.entry c.args.entries.now)) (seen.entry one) =
    c.in_ok-row.ensures ∙ ap (λ ids. places_in c.in_ok-places.places (map view.id ids)) c.as_slice.ensures.value ∙ c.in_ok-places.ensures k (seen.entry one) here in
    ap (map (λ r. r.items)) c.in_ok-push.ensures.items ∙ map_push (λ r. r.items) c.loop-entry.rows.items c.in_ok-row.row ∙ ap (λ rs. rs ++ c.in_ok-row.row.items ∷ []) c.loop-entry.invariant
    ∙ ap (λ r. map (row_of (labels (map seen.entry c.args.entries.now))) (map seen.entry (take k c.args.entries.now)) ++ r ∷ []) row
    ∙ sym (ap (λ es. map (row_of (labels (map seen.entry c.args.entries.now))) (map seen.entry es)) (taken c.args.entries.now k one there)
    ∙ ap (map (row_of (labels (map seen.entry c.args.entries.now)))) (map_push seen.entry (take k c.args.entries.now) one)
    ∙ map_push (row_of (labels (map seen.entry c.args.entries.now))) (map seen.entry (take k c.args.entries.now)) (seen.entry one))
