use Rattle.std.proofs.Common.{subst}
use Rattle.std.specs.Prelude.{IfOk}
use Rattle.wit_resolve_errors.specs.Passed.wit_graph-Packages.{ArePackageDeps}
use Rattle.wit_resolution.specs.Pushes.{Resolved}
use Rattle.wit_resolution.proofs.resolve.Resolve.package_direct_deps.Goals as goal

pub returns : goal.returns
returns c = subst (λ (r : Resolved). IfOk c.package_direct_deps.result (λ deps. ArePackageDeps r.graph.tables c.args.id deps.items)) c.self.view_is c.package_direct_deps.ensures
