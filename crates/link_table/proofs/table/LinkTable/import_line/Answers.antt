use Rattle.std.proofs.Common.{◌≡◌, length, sym, ap, ◌∙◌, arith}
use Rattle.std.proofs.lemmas.List.{length-map}
use Rattle.std.proofs.lemmas.Result.{IfOk-weaker}
use Rattle.std.specs.Prelude.{string_bytes}
use Rattle.wasm_types.specs.Entries.{import_value}
use Rattle.link_lines.specs.Line.{link_value}
use Rattle.wit_core_names.specs.Items.{import_of}
use Rattle.wit_reach.proofs.Holding.{got}
use Rattle.link_table.specs.Linking.{linking_value}
use Rattle.link_table.specs.Lines.{import_line, IsImportLine}
use Rattle.link_table.specs.Table.{ImportEntry}
use Rattle.link_table.proofs.Rows.{entry_named, entry_import, entry_line}
use Rattle.link_table.proofs.Walks.{mapped_at}
use Rattle.link_table.proofs.table.LinkTable.import_line.Goals as goal

pub wasm_import_name-requires-clause-named : goal.wasm_import_name-requires-clause-named
wasm_import_name-requires-clause-named c =
    let l = linking_value c.args.linking.now in
    let is = c.requires.table in
    let n : length is.table.imports ≡ length l.main.imports = sym (length-map is.table.imports (λ (e : ImportEntry). e.«import»)) ∙ ap length is.is.imports in
    let lt = c.requires.there in
    let e = got is.table.imports c.args.index (omega (arith, n, lt)) in
    entry_named l is.table is.is c.args.index e.0 e.1 (import_of c.meaning-end.result) c.requires.packages (c.meaning-end.ensures l.main.imports e.0.«import» is.imports (entry_import l is.table is.is c.args.index e.0 e.1))

pub returns : goal.returns
returns c = λ is e at.
    let l = linking_value c.args.linking.now in
    let n : length l.main.imports ≡ length c.args.linking.now.main.now.imports.items = length-map c.args.linking.now.main.now.imports.items import_value in
    let lt = c.requires.there in
    IfOk-weaker c.import_link.result (λ k. link_value k ≡ import_line (import_value c.index.result.now) (string_bytes c.in_ok-place.place) (string_bytes c.in_ok-place.function)) (λ k. IsImportLine l e (link_value k))
    (λ k same. entry_line l is.table is.is c.args.index e at (import_of c.meaning-end.result) (import_value c.index.result.now) (string_bytes c.in_ok-place.place) (string_bytes c.in_ok-place.function) (link_value k)
    (mapped_at import_value c.args.linking.now.main.now.imports.items c.args.index c.index.result.now (omega (arith, n, lt)) c.index.ensures)
    (c.meaning-end.ensures l.main.imports e.«import» is.imports (entry_import l is.table is.is c.args.index e at)) c.in_ok-place.ensures same) c.import_link.ensures
