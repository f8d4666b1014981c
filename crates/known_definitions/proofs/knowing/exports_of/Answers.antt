use Rattle.std.proofs.Common.{◌<◌, length, map, rules, refl, sym, ap, ◌∙◌}
use Rattle.std.specs.Prelude.{option_map}
use Rattle.std.proofs.lemmas.List.{map_push}
use Rattle.known_definitions.proofs.Each.{each_step, each_stop}
use Rattle.component_value_types.specs.Names.{named_value}
use Rattle.known_definitions.specs.Definition.{inline_export_value}
use Rattle.known_definitions.specs.Known.{known_export}
use Rattle.known_definitions.proofs.knowing.exports_of.Goals as goal

pub returns-in_default : goal.returns-in_default
returns-in_default c =
    let there : c.loop-export.export-index < length c.args.exports.now = search rules in
    sym (each_stop (named_value (λ x. x)) known_export c.args.exports.now c.loop-export.export-index _ _ there refl (sym c.function_export.ensures ∙ ap (option_map inline_export_value) c.in_default.is))

pub loop-export-preserved : goal.loop-export-preserved
loop-export-preserved c =
    let there : c.loop-export.export-index < length c.args.exports.now = search rules in
    let added = c.in-Some.known in
    rw (c.in_ok-push.ensures.items, map_push inline_export_value c.loop-export.found.items added)
    (each_step (named_value (λ x. x)) known_export c.args.exports.now c.loop-export.export-index _ _ there refl (map inline_export_value c.loop-export.found.items) (inline_export_value added) c.loop-export.invariant (sym c.function_export.ensures ∙ ap (option_map inline_export_value) c.in-Some.is))
