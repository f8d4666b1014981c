-- Where 32 bits can say every number of the component, they can number its functions.
use Rattle.std.proofs.Common.{◌≡◌, ◌<◌, ◌≤◌, ◌+◌, ◌^◌, ℕ, suc, List, [], ◌∷◌, ◌++◌, length, None, arith}
use Rattle.std.specs.List.{All, flat_map}
use Rattle.std.proofs.lemmas.List.Elements.{All-nil, All-cons, All-head, All-tail}
use Rattle.component_definitions.specs.Canonical.{canonical, canonical_form_of}
use Rattle.component_definitions.specs.Externs.{description, description_form_of}
use Rattle.component_sections.proofs.Typed.{Typed, all_typed}
use Rattle.known_definitions.specs.Definition.{DefinitionValue, core_module_of, lift_of, lower_of, import_of, export_of}
use Rattle.known_definitions.specs.Known.{definition_of}
use Rattle.known_definitions.specs.Component.{Fits}
use Rattle.plain_worlds.specs.World.{FunctionItem}
use Rattle.wit_component.specs.Linking.{Linking}
use Rattle.wit_component.specs.Table.{needed}
use Rattle.wit_component.specs.Component.{numbered, types_of, import_side, instance_side, aliases_of, export_side, component_of}
use Rattle.wit_component.specs.Written.{among}

abbrev AllTyped : List DefinitionValue → Type 0
AllTyped ds = All Typed (among ds)

behind_all : (ds es : List DefinitionValue) → AllTyped (ds ++ es) → AllTyped es
behind_all [] es h = h
behind_all (d ∷ ds) es h = behind_all ds es (All-tail Typed (definition_of d) (among (ds ++ es)) h)

front_all : (ds es : List DefinitionValue) → AllTyped (ds ++ es) → AllTyped ds
front_all [] es h = All-nil Typed
front_all (d ∷ ds) es h = All-cons Typed (definition_of d) (among ds) (All-head Typed (definition_of d) (among (ds ++ es)) h) (front_all ds es (All-tail Typed (definition_of d) (among (ds ++ es)) h))

lift_number : (n : ℕ) → Typed (definition_of (lift_of n n)) → n < 2 ^ 32
unfolding canonical canonical_form_of
lift_number n h = h.0.1.1.0

import_number : (name : List ℕ) (n : ℕ) → Typed (definition_of (import_of name n)) → n < 2 ^ 32
unfolding description description_form_of
import_number name n h = h.0.1.0.0.1.0

lifts_number : (fs : List FunctionItem) (n : ℕ) → AllTyped (numbered (λ n f. lift_of n n) n fs) → n ≤ 2 ^ 32 → n + length fs ≤ 2 ^ 32
lifts_number [] n h le = omega (arith, le)
lifts_number (f ∷ fs) n h le =
    let more = among (numbered (λ n f. lift_of n n) (suc n) fs) in
    let low = lift_number n (All-head Typed (definition_of (lift_of n n)) more h) in
    let rest = lifts_number fs (suc n) (All-tail Typed (definition_of (lift_of n n)) more h) (omega (arith, low)) in
    omega (arith, rest)

imports_number : (fs : List FunctionItem) (n : ℕ) → AllTyped (numbered (λ n f. import_of f.name n) n fs) → n ≤ 2 ^ 32 → n + length fs ≤ 2 ^ 32
imports_number [] n h le = omega (arith, le)
imports_number (f ∷ fs) n h le =
    let more = among (numbered (λ n f. import_of f.name n) (suc n) fs) in
    let low = import_number f.name n (All-head Typed (definition_of (import_of f.name n)) more h) in
    let rest = imports_number fs (suc n) (All-tail Typed (definition_of (import_of f.name n)) more h) (omega (arith, low)) in
    omega (arith, rest)

can_number : (l : Linking) → Fits (component_of l) → length (needed l) + length l.world.exports ≤ 2 ^ 32
unfolding component_of
can_number l fits =
    let all = all_typed (among (component_of l)) fits in
    let asked = behind_all (types_of (needed l)) _ (front_all (import_side l) (instance_side l ++ export_side l) all) in
    let few = imports_number (needed l) 0 (front_all (numbered (λ n f. import_of f.name n) 0 (needed l)) (core_module_of l.main.bytes ∷ numbered (λ n f. lower_of n) 0 (needed l)) asked) (omega arith) in
    let offered = behind_all (instance_side l) (export_side l) (behind_all (import_side l) (instance_side l ++ export_side l) all) in
    let lifted = behind_all (types_of l.world.exports) _ (behind_all (flat_map (aliases_of l) l.world.exports) _ offered) in
    lifts_number l.world.exports (length (needed l)) (front_all (numbered (λ n f. lift_of n n) (length (needed l)) l.world.exports) (numbered (λ n f. export_of f.name n None) (length (needed l)) l.world.exports) lifted) (omega (arith, few))

pub too_many : (l : Linking) (n e : ℕ) → n ≡ length (needed l) → e ≡ length l.world.exports → 2 ^ 32 < n + e → Fits (component_of l) → ⊥
too_many l n e needs offers large fits = let few = can_number l fits in absurd (omega (arith, needs, offers, large, few))
