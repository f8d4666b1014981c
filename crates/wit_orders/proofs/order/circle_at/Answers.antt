use Rattle.std.proofs.Common.{◌≡◌, Some, map, sym, ap, ◌∙◌}
use Rattle.std.specs.Prelude.{option_map, slice_get}
use Rattle.std.proofs.lemmas.Option.{slice_get-map}
use Rattle.wit_rules.specs.declared.fault.PackageRule.TheVariants.{Cycle}
use Rattle.wit_rules.specs.declared.fault.PackageFault.TheVariants.{Broken}
use Rattle.wit_rules.proofs.Places.{read_at}
use Rattle.wit_orders.specs.View as seen
use Rattle.wit_orders.specs.declared.order.Entry.{Entry as Named}
use Rattle.wit_orders.proofs.order.circle_at.Goals as goal

pub returns : goal.returns
returns c =
    let one : Named = c.index-entries-place.result in
    let there : slice_get (map seen.entry c.args.entries.now) c.args.place ≡ Some (seen.entry one) =
    slice_get-map seen.entry c.args.entries.now c.args.place ∙ ap (option_map seen.entry) (read_at c.args.entries.now c.args.place one c.requires c.index-entries-place.is) in
    (seen.entry one, there, ap (λ (e : Named). Broken Cycle e.label.span) (sym c.index-entries-place.is))
