use Rattle.std.proofs.Common.{sym, subst}
use Rattle.wit_graph.specs.Graph.{Graph, IsGraph}
use Rattle.wit_graph.specs.Push.{HasMorePackages}
use Rattle.wit_graph.proofs.Finishing.{restored}
use Rattle.wit_graph.proofs.graph.Graph.restore.Goals as goal

pub invariant_of-self : goal.invariant_of-self
invariant_of-self c =
    let g : Graph = c.requires.0 in
    let now : Graph = record { tables = c.self.inside.tables; names = c.self.inside.names.entries } in
    let more : HasMorePackages g now = subst (HasMorePackages g) (sym c.self.view_is) c.requires.2 in
    subst IsGraph (sym (restored g now c.args.mark c.cut.new.tables c.truncate.new.self c.truncate-2.new.self.entries c.requires.1 more c.requires.3 c.cut.ensures c.truncate.ensures c.truncate-2.ensures.entries)) c.requires.1

pub returns : goal.returns
returns c g graph grown marked =
    let now : Graph = record { tables = c.self.inside.tables; names = c.self.inside.names.entries } in
    let more : HasMorePackages g now = subst (HasMorePackages g) (sym c.self.view_is) grown in
    restored g now c.args.mark c.cut.new.tables c.truncate.new.self c.truncate-2.new.self.entries graph more marked c.cut.ensures c.truncate.ensures c.truncate-2.ensures.entries
