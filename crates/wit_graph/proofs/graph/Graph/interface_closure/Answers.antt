use Rattle.std.proofs.Common.{◌≡◌, ◌<◌, length, subst, ap, ◌∙◌, arith}
use Rattle.wit_graph.specs.Graph.{Graph, IsClosureOf}
use Rattle.wit_graph.proofs.Keeping.{rows_long}
use Rattle.wit_graph.proofs.Closing.{closure_of}
use Rattle.wit_graph.proofs.graph.Graph.interface_closure.Goals as goal

pub get-requires : goal.get-requires
get-requires c =
    let t = c.self.inside.tables in
    let long : length t.closures ≡ length t.interfaces.all = c.self.invariant.whole.closures_are ∙ rows_long t.types t.interfaces.all t.interfaces.uses c.self.invariant.whole.whole.rows in
    let all : length t.interfaces.all ≡ length c.args.self.now.tables.interfaces.all = ap (λ (g : Graph). length g.tables.interfaces.all) c.self.view_is in
    let below : c.args.id < length c.args.self.now.tables.interfaces.all = c.requires in
    omega (arith, long, all, below)

pub returns : goal.returns
returns c = subst (λ (g : Graph). IsClosureOf g.tables c.args.id c.get.result.now) c.self.view_is (closure_of c.self.inside.tables c.args.id c.get.result.now c.self.invariant.whole c.get.ensures.there c.get.ensures.closed)
