use Rattle.std.proofs.Common.{◌≡◌, length, map, sym, ◌∙◌, arith}
use Rattle.std.proofs.lemmas.List.{length-map}
use Rattle.std.specs.Prelude.{option_map, string_bytes}
use Rattle.wasm_types.specs.Entries.{import_value}
use Rattle.wit_reach.proofs.Holding.{got}
use Rattle.core_links.specs.Names.{names_in}
use Rattle.interface_names.specs.Found.{texts_of}
use Rattle.interface_names.proofs.Finding.{none_found, next_found, next_twice}
use Rattle.interface_names.proofs.names.put_needed.Goals as goal

pub loop-index-init : goal.loop-index-init
loop-index-init c = none_found (names_in c.args.names.now) c.len-count.ensures.unique (texts_of c.args.texts.now.items) c.requires.none

pub place-requires : goal.place-requires
place-requires c =
    let is = map import_value c.args.imports.now in
    let size : length is ≡ length c.args.imports.now = length-map c.args.imports.now import_value in
    let lt = c.loop-index-test.true in
    record { links = (names_in c.args.names.now, is, c.requires.links, omega (arith, size, lt)) }

pub put_place-requires-clause-so_many : goal.put_place-requires-clause-so_many
put_place-requires-clause-so_many c = sym (length-map c.loop-index.texts.items (option_map string_bytes)) ∙ c.loop-index.invariant.so_many

pub returns-then-not-branch-clause-no : goal.returns-then-not-branch-clause-no
returns-then-not-branch-clause-no c _ =
    let n = names_in c.args.names.now in
    let is = map import_value c.args.imports.now in
    let k = c.loop-index.index in
    let size : length is ≡ length c.args.imports.now = length-map c.args.imports.now import_value in
    let lt = c.loop-index-test.true in
    let (i, at) = got is k (omega (arith, size, lt)) in
    next_twice n c.len-count.ensures.unique is k i (texts_of c.loop-index.texts.items) (texts_of c.put_place.new.texts.items) at c.place.result (c.place.ensures n is i c.requires.links at) c.in_ok-put_place.field-0 c.in_ok-put_place.ensures c.loop-index.invariant
    c.if-not-branch.true

pub loop-index-preserved : goal.loop-index-preserved
loop-index-preserved c =
    let n = names_in c.args.names.now in
    let is = map import_value c.args.imports.now in
    let k = c.loop-index.index in
    let size : length is ≡ length c.args.imports.now = length-map c.args.imports.now import_value in
    let lt = c.loop-index-test.true in
    let (i, at) = got is k (omega (arith, size, lt)) in
    next_found n c.len-count.ensures.unique is k i (texts_of c.loop-index.texts.items) (texts_of c.put_place.new.texts.items) at c.place.result (c.place.ensures n is i c.requires.links at) c.in_ok-put_place.field-0 c.in_ok-put_place.ensures c.loop-index.invariant
    c.if-not-branch.false
