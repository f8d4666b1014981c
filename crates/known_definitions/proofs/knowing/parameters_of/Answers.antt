use Rattle.std.proofs.Common.{◌<◌, length, map, rules, refl, sym, ap, ◌∙◌}
use Rattle.std.specs.Prelude.{option_map}
use Rattle.std.proofs.lemmas.List.{map_push}
use Rattle.known_definitions.proofs.Each.{each_step, each_stop}
use Rattle.component_value_types.specs.Names.{named_value}
use Rattle.known_definitions.specs.Definition.{parameter_value}
use Rattle.known_definitions.specs.Known.{known_parameter}
use Rattle.known_definitions.proofs.knowing.parameters_of.Goals as goal

pub returns-in_default : goal.returns-in_default
returns-in_default c =
    let there : c.loop-param.param-index < length c.args.params.now = search rules in
    sym (each_stop (named_value (λ t. t)) known_parameter c.args.params.now c.loop-param.param-index _ _ there refl (sym c.parameter_of.ensures ∙ ap (option_map parameter_value) c.in_default.is))

pub loop-param-preserved : goal.loop-param-preserved
loop-param-preserved c =
    let there : c.loop-param.param-index < length c.args.params.now = search rules in
    let added = c.in-Some.known in
    rw (c.in_ok-push.ensures.items, map_push parameter_value c.loop-param.found.items added)
    (each_step (named_value (λ t. t)) known_parameter c.args.params.now c.loop-param.param-index _ _ there refl (map parameter_value c.loop-param.found.items) (parameter_value added) c.loop-param.invariant (sym c.parameter_of.ensures ∙ ap (option_map parameter_value) c.in-Some.is))
