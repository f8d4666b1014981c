use Rattle.wit_resolution.proofs.resolve.Resolve.type_interface_dep.Goals as goal

pub returns-clause-all : goal.returns-clause-all
returns-clause-all c = rw c.graph.ensures at c.type_interface_dep.ensures.all
