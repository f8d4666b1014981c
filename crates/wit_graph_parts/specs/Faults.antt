-- Refusals of parts of a push.
use Rattle.wit_graph_worlds.specs.Passed.wit_finding-declared-fault-FindFault.{FindFault}
use Rattle.wit_graph_worlds.specs.Passed.wit_finding-declared-fault-FindFault-TheVariants as found
use Rattle.wit_moves.specs.declared.plan.MoveFault.{MoveFault}
use Rattle.wit_moves.specs.declared.plan.MoveFault.TheVariants as moved
use Rattle.wit_graph_worlds.specs.declared.worlds.WorldFault.{WorldFault}
use Rattle.wit_graph_worlds.specs.declared.worlds.WorldFault.TheVariants as world
use Rattle.wit_graph_parts.specs.declared.fault.PushFault.{PushFault}
use Rattle.wit_graph_parts.specs.declared.fault.PushFault.TheVariants.{PackageNotFound, ItemNotFound, IncludeClash, ExportConflict, OutOfMemory}

abbrev pub of_found : FindFault → PushFault
of_found (found.PackageNotFound at) = PackageNotFound at
of_found (found.ItemNotFound at) = ItemNotFound at
of_found found.OutOfMemory = OutOfMemory

abbrev pub of_moved : MoveFault → PushFault
of_moved (moved.ItemNotFound at) = ItemNotFound at
of_moved moved.OutOfMemory = OutOfMemory

abbrev pub of_world : WorldFault → PushFault
of_world (world.ItemNotFound at) = ItemNotFound at
of_world (world.IncludeClash at) = IncludeClash at
of_world (world.ExportConflict i at) = ExportConflict i at
of_world world.OutOfMemory = OutOfMemory
