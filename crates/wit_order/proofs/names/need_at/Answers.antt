use Rattle.std.proofs.Common.{◌≡◌, ◌<◌, ◌∙◌, List, Some, sym, ap, length, arith}
use Rattle.std.specs.Prelude.{slice_get}
use Rattle.std.proofs.lemmas.List.{length-map}
use Rattle.wit_order.specs.Names.{Ask, ask, asks, asks_of, table}
use Rattle.wit_order.specs.declared.names.Need.{Need}
use Rattle.wit_order.proofs.Tables.{asks_read, ask_at}
use Rattle.wit_order.proofs.names.need_at.Goals as goal

pub index-requires : goal.index-requires
index-requires c =
    let e : asks (table c.args.deps.now.entries) c.args.from ≡ asks_of c.index-needs.result.now.items = asks_read c.args.deps.now.entries c.args.from c.index-needs.result.now c.index-needs.ensures in
    let s = ap length e ∙ length-map c.index-needs.result.now.items ask in
    let l = c.requires.need in
    omega arith

pub returns : goal.returns
returns c =
    let e : asks (table c.args.deps.now.entries) c.args.from ≡ asks_of c.index-needs.result.now.items = asks_read c.args.deps.now.entries c.args.from c.index-needs.result.now c.index-needs.ensures in
    let s = ap length e ∙ length-map c.index-needs.result.now.items ask in
    let l0 = c.requires.need in
    let l : c.args.need < length c.index-needs.result.now.items = omega arith in
    ap (λ (w : List Ask). slice_get w c.args.need) e ∙ ask_at c.index-needs.result.now.items c.args.need c.index.result.now l ∙ ap (λ (d : Need). Some (ask d)) (sym c.index.ensures)
