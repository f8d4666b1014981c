use Rattle.std.proofs.Common.{◌≡◌, [], map, bytes_eq, drop}
use Rattle.indexmap.specs.IndexMap.{insert_all}
use Rattle.wit_graph_worlds.specs.Names as spec
use Rattle.wit_graph_worlds.proofs.names.world_names.Given as goal

abbrev pub invariant-loop-world : goal.invariant-loop-world
invariant-loop-world l =
    insert_all bytes_eq (map spec.by_bytes l.names.entries) (spec.world_names l.index (drop l.world-index l.worlds)) ≡ insert_all bytes_eq [] (spec.world_names l.first l.worlds)
