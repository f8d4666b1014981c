use Rattle.std.proofs.Common.{◌≡◌, map, length, subst, sym, ◌∙◌, arith, take}
use Rattle.std.proofs.lemmas.List.{length-map}
use Rattle.wasm_types.specs.Entries.{import_value}
use Rattle.core_links.specs.Marks.{AreMarksOf}
use Rattle.core_links.specs.Names.{names_in}
use Rattle.core_links.proofs.Picking.{there, take_next}
use Rattle.core_links.proofs.needed.Marks.of_imports.Goals as goal

pub place-requires : goal.place-requires
place-requires c =
    let is = map import_value c.args.imports.now in
    let size : length is ≡ length c.args.imports.now = length-map c.args.imports.now import_value in
    let long = c.len.ensures in
    let lt = c.loop-index-test.true in
    record { links = (names_in c.args.names.now, is, c.requires, omega (arith, size, long, lt)) }

pub mark_place-requires-clause-there : goal.mark_place-requires-clause-there
mark_place-requires-clause-there c =
    let n = names_in c.args.names.now in
    let is = map import_value c.args.imports.now in
    let size : length is ≡ length c.args.imports.now = length-map c.args.imports.now import_value in
    let long = c.len.ensures in
    let lt = c.loop-index-test.true in
    let (i, at) = there is c.loop-index.index (omega (arith, size, long, lt)) in
    (i, c.place.ensures n is i c.requires at)

pub loop-index-preserved : goal.loop-index-preserved
loop-index-preserved c =
    let n = names_in c.args.names.now in
    let is = map import_value c.args.imports.now in
    let k = c.loop-index.index in
    let size : length is ≡ length c.args.imports.now = length-map c.args.imports.now import_value in
    let long = c.len.ensures in
    let lt = c.loop-index-test.true in
    let (i, at) = there is k (omega (arith, size, long, lt)) in
    let new = c.mark_place.new.self in (
      subst (λ js. AreMarksOf n js new.own.items new.interfaces.items) (sym (take_next is k i at)) (c.in_ok-mark_place.ensures.marks (take k is) i c.loop-index.invariant.0 (c.place.ensures n is i c.requires at)),
      c.in_ok-mark_place.ensures.so_many ∙ c.loop-index.invariant.1,
    )
