use Rattle.std.proofs.Common.{map, List, ◌<◌, length, rules, refl, sym, ap, subst, ◌∙◌}
use Rattle.std.specs.Prelude.{option_map}
use Rattle.std.proofs.lemmas.List.{map_push}
use Rattle.known_definitions.proofs.Each.{each_step, each_stop}
use Rattle.component_sections.specs.Component.{placed_value}
use Rattle.known_definitions.specs.declared.definition.KnownDefinition.{KnownDefinition}
use Rattle.known_definitions.specs.Definition.{definition_value, definition_values, kind_value, AreWithin}
use Rattle.known_definitions.specs.Known.{known_of}
use Rattle.known_definitions.proofs.Places.{one_within, offsets_more}
use Rattle.known_definitions.proofs.knowing.known_definitions.Goals as goal

pub returns-in_default-clause-known : goal.returns-in_default-clause-known
returns-in_default-clause-known c =
    let there : c.loop-placed.placed-index < length c.args.definitions.now = search rules in
    sym (each_stop placed_value known_of c.args.definitions.now c.loop-placed.placed-index c.placed-item.result _ there c.placed-item.is (sym c.in_ok-kind.ensures ∙ ap (option_map kind_value) c.in_default.is))

pub loop-placed-preserved : goal.loop-placed-preserved
loop-placed-preserved c =
    let there : c.loop-placed.placed-index < length c.args.definitions.now = search rules in
    let added : KnownDefinition = record { offset = c.placed-item.result.offset; kind = c.in-Some.kind } in
    record {
      known = rw (c.in_ok-push.ensures.items, map_push definition_value c.loop-placed.found.items added)
          (each_step placed_value known_of c.args.definitions.now c.loop-placed.placed-index c.placed-item.result _ there c.placed-item.is (definition_values c.loop-placed.found.items) (definition_value added) c.loop-placed.invariant.known (sym c.in_ok-kind.ensures ∙ ap (option_map kind_value) c.in-Some.is));
      offsets = ap (λ (ks : List KnownDefinition). map (λ d. d.offset) ks) c.in_ok-push.ensures.items ∙ offsets_more c.args.definitions.now c.loop-placed.placed-index c.placed-item.result _ there c.placed-item.is c.loop-placed.found.items added refl c.loop-placed.invariant.offsets;
      within = λ total h. subst (AreWithin (length total)) (sym c.in_ok-push.ensures.items) (one_within total c.args.definitions.now c.loop-placed.placed-index c.placed-item.result _ there c.placed-item.is h c.loop-placed.found.items added refl (c.loop-placed.invariant.within total h));
    }
