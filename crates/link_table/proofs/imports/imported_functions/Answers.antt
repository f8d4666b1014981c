use Rattle.std.proofs.Common.{◌≡◌, [], ◌∷◌, map, length, inl, refl, ap, ◌∙◌, arith}
use Rattle.std.proofs.lemmas.List.{length-map, map-append}
use Rattle.std.specs.Prelude.{Option}
use Rattle.wasm_types.specs.Entries.{ImportValue, import_value}
use Rattle.wit_types.specs.declared.function.Function.{Function}
use Rattle.wit_types.specs.declared.world_key.WorldKey.{WorldKey}
use Rattle.linked_types.proofs.Walks.{has_at}
use Rattle.core_links.proofs.Meanings.{one_there}
use Rattle.link_table.specs.Linking.{linking_value, StandsForFunction}
use Rattle.link_table.proofs.Pairwise.{next_pair}
use Rattle.link_table.proofs.Walks.{take_step}
use Rattle.link_table.proofs.imports.imported_functions.Goals as goal

pub returns-in_default-clause-cause : goal.returns-in_default-clause-cause
returns-in_default-clause-cause c =
    let l = linking_value c.args.linking.now in
    let n : length l.main.imports ≡ length c.args.linking.now.main.now.imports.items = length-map c.args.linking.now.main.now.imports.items import_value in
    let e = ap length c.as_slice-index-end.ensures.value in
    let t = c.loop-index-test.true in
    let at = one_there l.main.imports c.loop-index.index (omega (arith, n, e, t)) in
    let h = c.in_default.ensures at.0 at.1 in
    inl (refl, (at.0, h.0, h.1, h.2, has_at l.main.imports c.loop-index.index at.0 at.1, h.3))

pub loop-index-preserved : goal.loop-index-preserved
loop-index-preserved c =
    let l = linking_value c.args.linking.now in
    let n : length l.main.imports ≡ length c.args.linking.now.main.now.imports.items = length-map c.args.linking.now.main.now.imports.items import_value in
    let e = ap length c.as_slice-index-end.ensures.value in
    let t = c.loop-index-test.true in
    let at = one_there l.main.imports c.loop-index.index (omega (arith, n, e, t)) in
    let f = c.in-Some.function in
    next_pair (λ (i : ImportValue) (g : Function). (key : Option WorldKey) × StandsForFunction l.names i key g) _ _ at.0 _ _ f.now (take_step l.main.imports c.loop-index.index at.0 at.1)
    (ap (map (λ g. g.now)) c.in_ok-push.ensures.items ∙ map-append (λ g. g.now) c.loop-index.functions.items (f ∷ [])) c.loop-index.invariant (c.in-Some.ensures at.0 at.1)
