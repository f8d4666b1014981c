use Rattle.std.proofs.Common.{◌<◌, ◌≤◌, length, get_or, map, sym, ap, ◌∙◌, arith}
use Rattle.std.proofs.lemmas.List.{take_all, length-map}
use Rattle.std.proofs.lemmas.List.Elements.{All-get_or}
use Rattle.wasm_types.specs.Entries.{export_value}
use Rattle.wasm_format.specs.Module.{module_value}
use Rattle.wit_component.specs.Linking.{core_export}
use Rattle.wit_component.specs.View as view
use Rattle.wit_component.proofs.WrittenLinks.{text_at, text_here, texts_more, placed_within, placed_texts}
use Rattle.wit_component.proofs.encoder.core_names.Goals as goal

pub index-requires : goal.index-requires
index-requires c =
    let l = view.linking c.args.linking.now in
    let places = c.args.table.now.exports.items in
    let at = c.loop-place.place-index in
    let lt : at < length places = omega (arith, c.loop-place-test.true, ap length c.deref-place-items.ensures.value) in
    let within : get_or places at 0 < length l.main.exports = All-get_or (λ p. p < length l.main.exports) places at 0 lt (placed_within l l.world.exports places c.requires.exports) in
    let m = module_value c.args.linking.now.main in
    let es = c.args.linking.now.main.exports.items in
    let same = ap (λ ps. get_or ps at 0) c.deref-place-items.ensures.value in
    omega (arith, within, same, length-map (map export_value es) (core_export m), length-map es export_value, c.args.linking.now.main.exports.ok)

pub loop-place-preserved : goal.loop-place-preserved
loop-place-preserved c =
    let l = view.linking c.args.linking.now in
    let places = c.args.table.now.exports.items in
    let at = c.loop-place.place-index in
    let lt : at < length places = omega (arith, c.loop-place-test.true, ap length c.deref-place-items.ensures.value) in
    let m = module_value c.args.linking.now.main in
    let es = c.args.linking.now.main.exports.items in
    let same = ap (λ ps. get_or ps at 0) c.deref-place-items.ensures.value in
    let within : get_or places at 0 < length l.main.exports = All-get_or (λ p. p < length l.main.exports) places at 0 lt (placed_within l l.world.exports places c.requires.exports) in
    let below : get_or places at 0 < length es = omega (arith, within, length-map (map export_value es) (core_export m), length-map es export_value) in
    let here = text_here m es (get_or places at 0) c.index.result.now below (c.index.ensures ∙ ap (λ p. get_or es p c.index.result.now) same) in
    ap (λ ts. map (λ t. t.now) ts) c.in_ok-push.ensures.items ∙ texts_more c.loop-place.names.items c.index.result.now.name (λ p. text_at l.main.exports p) places at lt c.loop-place.invariant (sym here)

pub returns : goal.returns
returns c =
    let l = view.linking c.args.linking.now in
    let places = c.args.table.now.exports.items in
    let ends : length places ≤ c.loop-place.place-index = omega (arith, ap length c.deref-place-items.ensures.value) in
    c.loop-place.invariant ∙ ap (λ ps. map (λ p. text_at l.main.exports p) ps) (take_all c.loop-place.place-index places ends) ∙ placed_texts l l.world.exports places c.requires.exports
