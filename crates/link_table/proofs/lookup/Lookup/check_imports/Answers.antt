use Rattle.std.proofs.Common.{◌≡◌, map, length, arith}
use Rattle.std.proofs.lemmas.List.{length-map}
use Rattle.std.proofs.lemmas.Result.{err_from_is_err_and}
use Rattle.wasm_types.specs.Entries.{import_value}
use Rattle.link_table.specs.Linking.{linking_value}
use Rattle.link_table.proofs.Walks.{function_at_place, function_has, walk_one, plain_step, plain_all}
use Rattle.link_table.proofs.lookup.Lookup.check_imports.Goals as goal

pub check_import-requires-clause-function : goal.check_import-requires-clause-function
check_import-requires-clause-function c =
    let lt = c.loop-place-test.true in
    let so_many = c.requires.so_many in
    c.requires.trees c.index-functions-place.result.now (function_has c.args.functions.now c.loop-place.place c.index-functions-place.result (omega (arith, lt, so_many)) c.index-functions-place.is)

pub returns-in_err-check_import-clause-cause : goal.returns-in_err-check_import-clause-cause
returns-in_err-check_import-clause-cause c =
    let lt = c.loop-place-test.true in
    let so_many = c.requires.so_many in
    let moved = err_from_is_err_and c.from_residual.result c.from_residual.ensures.1 in
    rw (moved.1, moved.2)
    (walk_one (linking_value c.args.self.now.linking) c.args.imports.now (map (λ f. f.now) c.args.functions.now) c.loop-place.place _ lt c.index-functions-place.result.now
    (function_at_place c.args.functions.now c.loop-place.place c.index-functions-place.result (omega (arith, lt, so_many)) c.index-functions-place.is) c.in_err-check_import.field-0.0 c.in_err-check_import.ensures.cause)

pub loop-place-preserved : goal.loop-place-preserved
loop-place-preserved c =
    let lt = c.loop-place-test.true in
    let so_many = c.requires.so_many in
    plain_step (linking_value c.args.self.now.linking) c.args.imports.now (map (λ f. f.now) c.args.functions.now) c.loop-place.place _ lt c.index-functions-place.result.now
    (function_at_place c.args.functions.now c.loop-place.place c.index-functions-place.result (omega (arith, lt, so_many)) c.index-functions-place.is) c.loop-place.invariant c.in_ok-check_import.ensures.typed c.in_ok-check_import.ensures.plain

pub returns-clause-plain : goal.returns-clause-plain
returns-clause-plain c =
    let n : length (map import_value c.args.imports.now) ≡ length c.args.imports.now = length-map c.args.imports.now import_value in
    let past = c.loop-place-test.false in
    plain_all (linking_value c.args.self.now.linking) (map import_value c.args.imports.now) _ c.loop-place.place (omega (arith, n, past)) c.loop-place.invariant
