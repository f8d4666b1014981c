use Rattle.std.proofs.Common.{◌≡◌, List, length, map, Some, refl, sym, ap, subst, ◌∙◌}
use Rattle.std.specs.Prelude.{option_map, IfSome}
use Rattle.std.specs.List.{All}
use Rattle.component_sections.specs.declared.section.PlacedDefinition.{PlacedDefinition}
use Rattle.component_sections.specs.Component.{placed_value, StandsIn, IsComponentFault}
use Rattle.plain_worlds.specs.World.{each_of}
use Rattle.known_definitions.specs.declared.definition.KnownDefinition.{KnownDefinition}
use Rattle.known_definitions.specs.Definition.{definition_values, AreWithin}
use Rattle.known_definitions.specs.Known.{known_of}
use Rattle.known_definitions.specs.Component.{IsComponent}
use Rattle.known_definitions.proofs.Laws.{are_known}
use Rattle.wit_component.specs.View as view
use Rattle.wit_component.proofs.Results.{ok_map, err_map}
use Rattle.component_audit.proofs.Causes.{judge_cause_is, says_of, broken_is_here, known_is_here}
use Rattle.component_audit.proofs.auditor.judge_bytes.Goals as goal

pub judge_component-requires-clause-within : goal.judge_component-requires-clause-within
judge_component-requires-clause-within c =
    let bytes = c.args.bytes.now in
    let stands : All (StandsIn bytes) c.deref.result.now = subst (All (StandsIn bytes)) (sym c.deref.ensures.value) c.in-Ok.ensures.stands in
    let within : AreWithin (length bytes) c.in-Some.known.items = subst (λ o. IfSome o (λ v. AreWithin (length bytes) v.items)) c.in-Some.is (c.in_ok-known.ensures.within bytes stands) in
    subst (AreWithin (length bytes)) (sym c.deref-2.ensures.value) within

pub returns-clause-verdict : goal.returns-clause-verdict
returns-clause-verdict c =
    let l = view.linking c.args.linking.now in
    let bytes = c.args.bytes.now in
    let known : each_of known_of (map placed_value c.in-Ok.definitions.items) ≡ Some (definition_values c.deref-2.result.now) =
    ap (λ (ps : List PlacedDefinition). each_of known_of (map placed_value ps)) (sym c.deref.ensures.value) ∙ sym c.in_ok-known.ensures.known
    ∙ ap (option_map (λ v. definition_values v.items)) c.in-Some.is ∙ ap (λ (ks : List KnownDefinition). Some (definition_values ks)) (sym c.deref-2.ensures.value) in
    let is : IsComponent bytes (definition_values c.deref-2.result.now) = are_known bytes (map placed_value c.in-Ok.definitions.items) (definition_values c.deref-2.result.now) c.in-Ok.ensures.found known in
    ok_map c.judge_component.result (says_of l bytes (definition_values c.deref-2.result.now) (length bytes) is refl) c.judge_component.ensures.verdict

pub returns-clause-cause : goal.returns-clause-cause
returns-clause-cause c =
    let l = view.linking c.args.linking.now in
    let bytes = c.args.bytes.now in
    let known : each_of known_of (map placed_value c.in-Ok.definitions.items) ≡ Some (definition_values c.deref-2.result.now) =
    ap (λ (ps : List PlacedDefinition). each_of known_of (map placed_value ps)) (sym c.deref.ensures.value) ∙ sym c.in_ok-known.ensures.known
    ∙ ap (option_map (λ v. definition_values v.items)) c.in-Some.is ∙ ap (λ (ks : List KnownDefinition). Some (definition_values ks)) (sym c.deref-2.ensures.value) in
    let is : IsComponent bytes (definition_values c.deref-2.result.now) = are_known bytes (map placed_value c.in-Ok.definitions.items) (definition_values c.deref-2.result.now) c.in-Ok.ensures.found known in
    err_map c.judge_component.result (judge_cause_is l bytes (definition_values c.deref-2.result.now) c.requires.linkable is) c.judge_component.ensures.cause

pub returns-in-Err-Malformed-clause-verdict : goal.returns-in-Err-Malformed-clause-verdict
returns-in-Err-Malformed-clause-verdict c = c.format_finding.ensures (view.linking c.args.linking.now)

pub returns-clause-here : goal.returns-clause-here
returns-clause-here c =
    let l = view.linking c.args.linking.now in
    let bytes = c.args.bytes.now in
    let known : each_of known_of (map placed_value c.in-Ok.definitions.items) ≡ Some (definition_values c.deref-2.result.now) =
    ap (λ (ps : List PlacedDefinition). each_of known_of (map placed_value ps)) (sym c.deref.ensures.value) ∙ sym c.in_ok-known.ensures.known
    ∙ ap (option_map (λ v. definition_values v.items)) c.in-Some.is ∙ ap (λ (ks : List KnownDefinition). Some (definition_values ks)) (sym c.deref-2.ensures.value) in
    let is : IsComponent bytes (definition_values c.deref-2.result.now) = are_known bytes (map placed_value c.in-Ok.definitions.items) (definition_values c.deref-2.result.now) c.in-Ok.ensures.found known in
    ok_map c.judge_component.result (λ v handed. known_is_here l bytes (definition_values c.deref-2.result.now) is handed) c.judge_component.ensures.handed

pub returns-in-Err-Malformed-clause-here : goal.returns-in-Err-Malformed-clause-here
returns-in-Err-Malformed-clause-here c =
    let bytes = c.args.bytes.now in
    broken_is_here (view.linking c.args.linking.now) bytes c.in-Err-Malformed.fault (subst (IsComponentFault bytes) c.in-Err-Malformed.field-0-is c.in-Err-Malformed.ensures.fault)
