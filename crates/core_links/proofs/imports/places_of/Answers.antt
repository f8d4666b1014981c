use Rattle.std.proofs.Common.{◌≡◌, map, length, arith}
use Rattle.std.proofs.lemmas.List.{length-map}
use Rattle.std.proofs.lemmas.Result.{err_from_is_err_and}
use Rattle.wasm_types.specs.Entries.{import_value}
use Rattle.core_links.specs.Names.{names_in}
use Rattle.core_links.proofs.Paired.{no_pair_repeats}
use Rattle.core_links.proofs.Meanings.{walked_none, walked_next, walked_all, one_cause, pair_cause}
use Rattle.core_links.proofs.imports.places_of.Goals as goal

pub loop-import-init : goal.loop-import-init
loop-import-init c = walked_none (names_in c.args.names.now) (map import_value c.args.imports.now) c.new-seen.result c.new-places.result.items c.new-seen.ensures c.new-places.ensures.items

pub loop-import-preserved : goal.loop-import-preserved
loop-import-preserved c =
    let old = c.loop-import in
    let added = c.in_ok-add_pair.ensures in
    walked_next (names_in c.args.names.now) c.args.imports.now old.import-index _ c.loop-import-test.true old.seen c.add_pair.new.seen old.places.items c.push.new.self.items c.in_ok-place.place
    old.invariant added.new added.added c.in_ok-place.ensures.means c.in_ok-push.ensures.items

pub returns-clause-mean : goal.returns-clause-mean
returns-clause-mean c = walked_all (names_in c.args.names.now) c.args.imports.now c.loop-import.import-index c.loop-import.seen c.loop-import.places.items c.loop-import-test.false c.loop-import.invariant

pub returns-clause-distinct : goal.returns-clause-distinct
returns-clause-distinct c =
    let n : length (map import_value c.args.imports.now) ≡ length c.args.imports.now = length-map c.args.imports.now import_value in
    let past = c.loop-import-test.false in
    no_pair_repeats (map import_value c.args.imports.now) c.loop-import.import-index (omega (arith, n, past)) c.loop-import.invariant.new

pub returns-in_err-add_pair-clause-cause : goal.returns-in_err-add_pair-clause-cause
returns-in_err-add_pair-clause-cause c =
    let old = c.loop-import in
    let moved = err_from_is_err_and c.from_residual.result c.from_residual.ensures.1 in
    rw (moved.1, moved.2)
    (pair_cause (names_in c.args.names.now) c.args.imports.now old.import-index _ c.loop-import-test.true old.seen old.places.items c.in_err-add_pair.field-0.0 old.invariant c.in_err-add_pair.ensures.cause)

pub returns-in_err-place-clause-cause : goal.returns-in_err-place-clause-cause
returns-in_err-place-clause-cause c =
    let moved = err_from_is_err_and c.from_residual-in_err-place.result c.from_residual-in_err-place.ensures.1 in
    rw (moved.1, moved.2)
    (one_cause (names_in c.args.names.now) c.args.imports.now c.loop-import.import-index _ c.loop-import-test.true c.in_err-place.field-0.0 c.in_err-place.ensures.cause)
