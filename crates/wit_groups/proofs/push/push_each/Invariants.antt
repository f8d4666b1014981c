use Rattle.wit_types.specs.declared.«package».UnresolvedPackage.{UnresolvedPackage}
use Rattle.wit_types.specs.contracts.«package».PackageNamePartialEq.TheImpl.{eq-value as package_eq}
use Rattle.wit_order.specs.Order.{Has}
use Rattle.wit_graph.specs.Passed.wit_graph_parts-Own.{IsWellFormed}
use Rattle.wit_graph.specs.Passed.wit_graph_parts-declared-fault-PushFault.{PushFault}
use Rattle.wit_graph.specs.Graph.{Graph}
use Rattle.wit_graph.specs.Push.{HasMorePackages}
use Rattle.wit_groups.specs.Pushed.{ArePushed, OneIsRefused}
use Rattle.wit_groups.proofs.push.push_each.Given as goal

-- what is so of the rest is so of all
abbrev pub invariant-loop-package : goal.invariant-loop-package
invariant-loop-package l = record {
  whole : (p : UnresolvedPackage) → Has l.package-iterator.rest.items p → IsWellFormed p;
  pushed : (last : Graph) → ArePushed package_eq.it l.features l.graph l.package-iterator.rest.items last → ArePushed package_eq.it l.features l.fn.graph l.fn.packages.items last;
  refused : (fault : PushFault) → OneIsRefused package_eq.it l.features l.graph l.package-iterator.rest.items fault → OneIsRefused package_eq.it l.features l.fn.graph l.fn.packages.items fault;
  more : HasMorePackages l.fn.graph l.graph;
}
