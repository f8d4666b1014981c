-- What a fault of the layers below is here.
use Rattle.type_writing.specs.declared.fault.Fault.{Fault as WritingFault}
use Rattle.type_writing.specs.declared.fault.Fault.TheVariants as writing
use Rattle.encodable_worlds.specs.Passed.link_table-declared-fault-TableFault-TheVariants.{NotYet, OutOfMemory}
use Rattle.linked_components.specs.declared.fault.ComponentFault.{ComponentFault}
use Rattle.linked_components.specs.declared.fault.ComponentFault.TheVariants as faults

abbrev pub no_memory : ComponentFault
no_memory = faults.Table OutOfMemory

abbrev pub of_writing : WritingFault → ComponentFault
of_writing writing.NotYet = faults.Table NotYet
of_writing writing.TooLarge = faults.TooLarge
of_writing writing.OutOfMemory = no_memory
