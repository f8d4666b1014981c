use Rattle.std.proofs.Common.{subst}
use Rattle.wit_resolve_errors.specs.Passed.wit_graph-Graph.{IsGraph}
use Rattle.wit_resolution.specs.Pushes.{Resolved}
use Rattle.wit_resolution.proofs.Worlds.{elaborated_at}
use Rattle.wit_resolution.proofs.resolve.Resolve.elaborate.Goals as goal

pub returns-clause-elaborated : goal.returns-clause-elaborated
returns-clause-elaborated c =
    let graph : IsGraph c.args.self.now.graph = subst (λ (r : Resolved). IsGraph r.graph) c.self.view_is c.law_is_graph.ensures in
    elaborated_at c.args.self.now.graph.tables c.args.id graph.whole c.requires
