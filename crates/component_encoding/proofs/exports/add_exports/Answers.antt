use Rattle.std.proofs.Common.{refl, ◌≡◌, ◌<◌, [], Some, length, map, get_or, sym, arith}
use Rattle.std.proofs.lemmas.List.{append-nil}
use Rattle.std.proofs.lemmas.Option.{slice_get-get_or, slice_get_read}
use Rattle.std.specs.Prelude.{slice_get}
use Rattle.linked_imports.specs.Passed.component_meaning-Spaces.{meaning}
use Rattle.wasm_types.specs.Entries.{export_value}
use Rattle.component_encoding.proofs.Lists.{get_map}
use Rattle.component_encoding.proofs.Exported.{exports_next, no_exports, all_exported}
use Rattle.component_encoding.proofs.Growth.{begins_more}
use Rattle.component_encoding.proofs.exports.add_exports.Goals as goal

pub loop-place-init : goal.loop-place-init
loop-place-init c = (([], sym (append-nil c.args.builder.now)), no_exports (map export_value c.args.exports.now) c.args.links.now (map (λ f. f.now) c.args.functions.now) c.args.types.now c.args.instance c.args.builder.now)

pub loop-place-preserved : goal.loop-place-preserved
loop-place-preserved c =
    let links = c.args.links.now in
    let fs = c.args.functions.now in
    let types = c.args.types.now in
    let n = c.loop-place.place in
    let lt : n < length links = c.loop-place-test.true in
    let many = c.requires.functions in
    let many_types = c.requires.types in
    let f = c.index-functions-place.result in
    let at_link : slice_get links n ≡ Some (get_or links n _) = slice_get-get_or links n _ lt in
    let at_f : slice_get fs n ≡ Some f = slice_get_read fs (length fs) n f refl (omega (arith, lt, many)) c.index-functions-place.is in
    let at_ty : slice_get types n ≡ Some (get_or types n 0) = slice_get-get_or types n 0 (omega (arith, lt, many_types)) in (
      begins_more c.args.builder.now c.loop-place.builder c.add_export.new.builder c.loop-place.invariant.0 c.in_ok-add_export.ensures.begins,
      exports_next (map export_value c.args.exports.now) links (map (λ f. f.now) fs) types c.args.instance c.args.builder.now c.loop-place.builder c.add_export.new.builder c.loop-place.shared c.add_export.new.shared n (get_or links n _) f.now (get_or types n 0)
          lt at_link (get_map (λ g. g.now) fs n f at_f) at_ty c.in_ok-add_export.ensures.begins c.loop-place.invariant.1 c.in_ok-add_export.ensures.exported,
    )

pub returns-clause-begins : goal.returns-clause-begins
returns-clause-begins c = c.loop-place.invariant.0

pub returns-clause-exported : goal.returns-clause-exported
returns-clause-exported c = λ l main es same are named offered m typed.
    let past = c.loop-place-test.false in
    let within = c.loop-place.auto.place-end in
    let many = are.so_many in
    let all = c.loop-place.invariant.1 l main es same are named offered m typed in (
      all_exported l (meaning main c.args.builder.now) (meaning main c.loop-place.builder) es c.args.types.now c.loop-place.place (omega (arith, past, within, many)) all.0,
      λ differ placed. (all.2 differ placed).1,
    )
