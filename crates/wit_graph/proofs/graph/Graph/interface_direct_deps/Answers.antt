use Rattle.std.proofs.Common.{◌≡◌, ◌<◌, ℕ, Vec, get_or, length, sym, subst, ap, ◌∙◌, arith}
use Rattle.std.specs.declared.alloc.Global.{Global}
use Rattle.wit_order.specs.Places.{Rows}
use Rattle.wit_graph.specs.Graph.{Graph, IsDepsOf}
use Rattle.wit_graph.proofs.Keeping.{rows_long, row_at}
use Rattle.wit_graph.proofs.graph.Graph.interface_direct_deps.Goals as goal

pub row_at-requires : goal.row_at-requires
row_at-requires c =
    let t = c.self.inside.tables in
    let place : c.index.result ≡ c.args.id = c.index.ensures in
    let long : length c.uses.result.now ≡ length t.interfaces.all = ap (λ (rs : Rows). length rs) c.uses.ensures ∙ rows_long t.types t.interfaces.all t.interfaces.uses c.self.invariant.whole.whole.rows in
    let all : length t.interfaces.all ≡ length c.args.self.now.tables.interfaces.all = ap (λ (g : Graph). length g.tables.interfaces.all) c.self.view_is in
    let below : c.args.id < length c.args.self.now.tables.interfaces.all = c.requires in
    omega (arith, place, long, all, below)

pub returns : goal.returns
returns c =
    let t = c.self.inside.tables in
    let row : Vec ℕ Global = c.row_at.ensures.0 in
    let place : c.index.result ≡ c.args.id = c.index.ensures in
    let long : length t.interfaces.uses ≡ length t.interfaces.all = rows_long t.types t.interfaces.all t.interfaces.uses c.self.invariant.whole.whole.rows in
    let all : length t.interfaces.all ≡ length c.args.self.now.tables.interfaces.all = ap (λ (g : Graph). length g.tables.interfaces.all) c.self.view_is in
    let below : c.args.id < length c.args.self.now.tables.interfaces.all = c.requires in
    let is : row ≡ get_or t.interfaces.uses c.args.id row = c.row_at.ensures.1 ∙ ap (λ (rs : Rows). get_or rs c.index.result row) c.uses.ensures ∙ ap (λ (i : ℕ). get_or t.interfaces.uses i row) place in
    let r = row_at t.types t.interfaces.all t.interfaces.uses c.self.invariant.whole.whole.rows c.args.id row (omega (arith, long, all, below)) is in
    subst (λ (g : Graph). IsDepsOf g.tables c.args.id c.row_at.result.now) c.self.view_is (subst (IsDepsOf t c.args.id) (sym c.row_at.ensures.2) (r.0, r.1, r.2))
