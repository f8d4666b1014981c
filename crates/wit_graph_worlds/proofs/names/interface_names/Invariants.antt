use Rattle.std.proofs.Common.{◌≡◌, [], map, bytes_eq, drop}
use Rattle.indexmap.specs.IndexMap.{insert_all}
use Rattle.wit_graph_worlds.specs.Names as spec
use Rattle.wit_graph_worlds.proofs.names.interface_names.Given as goal

abbrev pub invariant-loop-interface : goal.invariant-loop-interface
invariant-loop-interface l =
    insert_all bytes_eq (map spec.by_bytes l.names.entries) (spec.interface_names l.index (drop l.interface-index l.interfaces)) ≡ insert_all bytes_eq [] (spec.interface_names l.first l.interfaces)
