use Rattle.std.proofs.Common.{subst}
use Rattle.std.specs.Prelude.{IfOk}
use Rattle.wit_graph.specs.Graph.{Graph}
use Rattle.wit_graph.specs.Packages.{ArePackageDeps}
use Rattle.wit_graph.proofs.graph.Graph.package_direct_deps.Goals as goal

pub returns : goal.returns
returns c = subst (λ (g : Graph). IfOk c.package_deps.result (λ deps. ArePackageDeps g.tables c.args.id deps.items)) c.self.view_is c.package_deps.ensures
