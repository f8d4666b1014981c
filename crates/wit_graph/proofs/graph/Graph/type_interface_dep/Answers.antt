use Rattle.std.proofs.Common.{◌≡◌, ℕ, Some, subst}
use Rattle.wit_reach.specs.Deps.{IsDepOf}
use Rattle.wit_graph.specs.Graph.{Graph}
use Rattle.wit_graph.proofs.graph.Graph.type_interface_dep.Goals as goal

pub returns-clause-all : goal.returns-clause-all
returns-clause-all c = subst (λ (g : Graph). (j : ℕ) → IsDepOf g.tables.types c.args.id j → c.type_interface_dep.result ≡ Some j) c.self.view_is c.type_interface_dep.ensures.all
