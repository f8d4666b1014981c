use Rattle.std.proofs.Common.{◌≡◌, List, Some, None, map, sym, subst, ◌∙◌, arith}
use Rattle.std.proofs.lemmas.Result.{IfOk-weaker}
use Rattle.wasm_types.specs.declared.entries.Export.{Export}
use Rattle.wasm_types.specs.Entries.{export_value}
use Rattle.wit_reach.proofs.Holding.{got}
use Rattle.link_lines.specs.Line.{link_value}
use Rattle.link_table.specs.Linking.{linking_value}
use Rattle.link_table.specs.Lines.{export_line, IsExportLine}
use Rattle.link_table.specs.View.{name_at, options_value}
use Rattle.link_table.proofs.Rows.{exported_at, exported_within, exported_line, item_at}
use Rattle.link_table.proofs.table.LinkTable.export_line.Goals as goal

pub unreachable-requires : goal.unreachable-requires
unreachable-requires c =
    let l = linking_value c.args.linking.now in
    let is = c.requires.table in
    let n = is.exports.so_many in
    let lt = c.requires.there in
    let e = got is.table.exports c.args.index (omega (arith, n, lt)) in
    let there = item_at c.args.self.now.exports.items c.args.index c.index.result.now lt c.index.ensures in
    let link = is.exports.each c.args.index e.0 c.index.result.now e.1 there in
    let none = subst (λ (xs : List Export). None ≡ name_at (map export_value xs) c.index.result.now.«export») c.as_slice-exports.ensures.value c.in_default.ensures in
    absurd (let f : None ≡ Some e.0.name = none ∙ link.name in cc)

pub exported_function-requires : goal.exported_function-requires
exported_function-requires c =
    let l = linking_value c.args.linking.now in
    let is = c.requires.table in
    let n = is.exports.so_many in
    let lt = c.requires.there in
    let e = got is.table.exports c.args.index (omega (arith, n, lt)) in
    exported_within l is.table is.is c.args.index e.0 e.1

pub unreachable-requires-in_default-exported_function : goal.unreachable-requires-in_default-exported_function
unreachable-requires-in_default-exported_function c =
    let l = linking_value c.args.linking.now in
    let is = c.requires.table in
    let n = is.exports.so_many in
    let lt = c.requires.there in
    let e = got is.table.exports c.args.index (omega (arith, n, lt)) in
    absurd (let f : None ≡ Some e.0.function = c.in_default-exported_function.ensures ∙ sym (exported_at l is.table is.is c.args.index e.0 e.1) in cc)

pub returns : goal.returns
returns c = λ is e at.
    let l = linking_value c.args.linking.now in
    let x = c.index.result.now in
    let link = is.exports.each c.args.index e x at (item_at c.args.self.now.exports.items c.args.index x c.requires.there c.index.ensures) in
    let named = subst (λ (xs : List Export). Some c.in-Some.name.now ≡ name_at (map export_value xs) x.«export») c.as_slice-exports.ensures.value c.in-Some.ensures in
    IfOk-weaker c.export_link.result (λ k. link_value k ≡ export_line c.in-Some-exported_function.function.now c.in-Some.name.now (options_value (map export_value c.as_slice-exports.result.now) x.options)) (λ k. IsExportLine e (link_value k))
    (λ k same. exported_line l is.table is.is c.args.index e at x c.in-Some-exported_function.function.now c.in-Some.name.now (link_value k) link c.in-Some-exported_function.ensures named
    (subst (λ (xs : List Export). link_value k ≡ export_line c.in-Some-exported_function.function.now c.in-Some.name.now (options_value (map export_value xs) x.options)) c.as_slice-exports.ensures.value same)) c.export_link.ensures
