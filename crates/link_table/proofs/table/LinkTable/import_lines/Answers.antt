use Rattle.std.proofs.Common.{◌≡◌, [], ◌∷◌, map, length, sym, ap, ◌∙◌, arith}
use Rattle.std.proofs.lemmas.List.{length-map, map-append}
use Rattle.wasm_types.specs.Entries.{import_value}
use Rattle.wit_reach.proofs.Holding.{got}
use Rattle.link_lines.specs.Line.{link_value}
use Rattle.link_table.specs.Linking.{linking_value}
use Rattle.link_table.specs.Lines.{IsImportLine}
use Rattle.link_table.specs.Table.{ImportEntry}
use Rattle.link_table.proofs.Pairwise.{next_pair, walked_pairs}
use Rattle.link_table.proofs.Walks.{take_step}
use Rattle.link_table.proofs.table.LinkTable.import_lines.Goals as goal

pub loop-index-preserved : goal.loop-index-preserved
loop-index-preserved c = λ is.
    let l = linking_value c.args.linking.now in
    let n : length is.table.imports ≡ length l.main.imports = sym (length-map is.table.imports (λ (e : ImportEntry). e.«import»)) ∙ ap length is.is.imports in
    let m : length l.main.imports ≡ length c.args.linking.now.main.now.imports.items = length-map c.args.linking.now.main.now.imports.items import_value in
    let s = ap length c.as_slice-index-end.ensures.value in
    let lt = c.loop-index-test.true in
    let e = got is.table.imports c.loop-index.index (omega (arith, n, m, s, lt)) in
    next_pair (IsImportLine l) _ _ e.0 _ _ (link_value c.in_ok-import_line.field-0) (take_step is.table.imports c.loop-index.index e.0 e.1)
    (ap (map link_value) c.in_ok-push.ensures.items ∙ map-append link_value c.loop-index.lines.items (c.in_ok-import_line.field-0 ∷ [])) (c.loop-index.invariant is) (c.in_ok-import_line.ensures is e.0 e.1)

pub returns : goal.returns
returns c = λ is.
    let l = linking_value c.args.linking.now in
    let n : length is.table.imports ≡ length l.main.imports = sym (length-map is.table.imports (λ (e : ImportEntry). e.«import»)) ∙ ap length is.is.imports in
    let m : length l.main.imports ≡ length c.args.linking.now.main.now.imports.items = length-map c.args.linking.now.main.now.imports.items import_value in
    let s = ap length c.as_slice-index-end.ensures.value in
    let past = c.loop-index-test.false in
    walked_pairs (IsImportLine l) is.table.imports (map link_value c.loop-index.lines.items) c.loop-index.index (omega (arith, n, m, s, past)) (c.loop-index.invariant is)
