-- Faults: what refusals of the layers below become, and the codes and names of them all, which are part of what the program prints.
use Rattle.std.specs.Prelude.{ℕ, List, Option, Some, None, codes}
use Rattle.handed_modules.specs.declared.fault.HandFault.{HandFault}
use Rattle.handed_modules.specs.declared.fault.HandFault.TheVariants as handing
use Rattle.wasm_format.specs.declared.fault.ModuleFault.{ModuleFault}
use Rattle.wasm_format.specs.declared.fault.ModuleFault.TheVariants as reading
use Rattle.wit_component.specs.declared.fault.Fault.{Fault as LinkFault}
use Rattle.wit_component.specs.declared.fault.Fault.TheVariants as linking
use Rattle.wit_component.specs.Code as link
use Rattle.core_links.specs.declared.fault.LinkFault.{LinkFault as CoreFault}
use Rattle.core_links.specs.declared.fault.LinkFault.TheVariants as core
use Rattle.linked_types.specs.declared.fault.TypeFault.{TypeFault}
use Rattle.linked_types.specs.declared.fault.TypeFault.TheVariants as types
use Rattle.linked_components.specs.Passed.link_table-declared-fault-TableFault.{TableFault}
use Rattle.linked_components.specs.Passed.link_table-declared-fault-TableFault-TheVariants as tables
use Rattle.linked_components.specs.declared.fault.ComponentFault.{ComponentFault}
use Rattle.linked_components.specs.declared.fault.ComponentFault.TheVariants as components
use Rattle.component_session.specs.declared.fault.ModuleCause.{ModuleCause}
use Rattle.component_session.specs.declared.fault.ModuleCause.TheVariants as modules
use Rattle.component_session.specs.declared.fault.Fault.{Fault}
use Rattle.component_session.specs.declared.fault.Fault.TheVariants as faults

-- of the module reader
abbrev pub of_module : ModuleFault → Fault
of_module reading.Malformed = faults.BadModule modules.Malformed
of_module reading.Unsupported = faults.BadModule modules.Unsupported
of_module reading.TooLarge = faults.BadModule modules.TooLarge
of_module reading.OutOfMemory = faults.OutOfMemory

-- of modules that were handed in
abbrev pub of_hand : HandFault → Fault
of_hand handing.UnknownAdapter = faults.UnknownAdapter
of_hand handing.DuplicateModule = faults.DuplicateModule
of_hand handing.OutOfMemory = faults.OutOfMemory

-- of what is linked
abbrev pub of_linking : LinkFault → Fault
of_linking linking.NotYet = faults.NotYet
of_linking linking.DuplicateImport = faults.Linking linking.DuplicateImport
of_linking linking.UnknownImport = faults.Linking linking.UnknownImport
of_linking linking.Ambiguous = faults.Linking linking.Ambiguous
of_linking linking.LegacyName = faults.Linking linking.LegacyName
of_linking linking.WrongCoreType = faults.Linking linking.WrongCoreType
of_linking linking.MissingCoreExport = faults.Linking linking.MissingCoreExport
of_linking linking.TooLarge = faults.Linking linking.TooLarge
of_linking linking.OutOfMemory = faults.OutOfMemory

-- of names and core types that aren't those of the world
abbrev pub of_core : CoreFault → Fault
of_core core.NotYet = faults.NotYet
of_core core.DuplicateImport = faults.Linking linking.DuplicateImport
of_core core.UnknownImport = faults.Linking linking.UnknownImport
of_core core.Ambiguous = faults.Linking linking.Ambiguous
of_core core.LegacyName = faults.Linking linking.LegacyName
of_core core.WrongCoreType = faults.Linking linking.WrongCoreType
of_core core.MissingCoreExport = faults.Linking linking.MissingCoreExport
of_core core.OutOfMemory = faults.OutOfMemory

-- of a link table over all types
abbrev pub of_table : TableFault → Fault
of_table tables.NotYet = faults.NotYet
of_table (tables.Link fault) = of_core fault
of_table tables.NoMemory = faults.NoMemory
of_table tables.NoRealloc = faults.NoRealloc
of_table (tables.Types fault) = faults.Types fault
of_table tables.OutOfMemory = faults.OutOfMemory

-- of a component over all types
abbrev pub of_component : ComponentFault → Fault
of_component (components.Table fault) = of_table fault
of_component components.TooLarge = faults.Linking linking.TooLarge

-- ---- codes and names

abbrev pub module_code : ModuleCause → List ℕ
module_code modules.Malformed = codes "M1"
module_code modules.Unsupported = codes "M2"
module_code modules.TooLarge = codes "M3"

abbrev pub type_code : TypeFault → Option (List ℕ)
type_code types.NotYet = Some (codes "X1")
type_code types.AsyncReached = Some (codes "B15")
type_code types.EmptyTypeReached = Some (codes "B16")
type_code types.TooManyFlags = Some (codes "B17")
type_code types.OutOfMemory = None

-- want of memory has no code
abbrev pub code : Fault → Option (List ℕ)
code faults.NotYet = Some (codes "X1")
code faults.NoModule = Some (codes "B1")
code faults.NoWorld = Some (codes "B2")
code faults.ExportUnsupplied = Some (codes "B3")
code faults.ExportNotInWorld = Some (codes "B5")
code (faults.BadModule cause) = Some (module_code cause)
code faults.UnknownAdapter = Some (codes "B22")
code faults.DuplicateModule = Some (codes "B24")
code (faults.Linking fault) = link.code fault
code faults.NoMemory = Some (codes "B13")
code faults.NoRealloc = Some (codes "B14")
code (faults.Types fault) = type_code fault
code faults.OutOfMemory = None

abbrev pub module_name : ModuleCause → List ℕ
module_name modules.Malformed = codes "Malformed"
module_name modules.Unsupported = codes "Unsupported"
module_name modules.TooLarge = codes "TooLarge"

abbrev pub type_name : TypeFault → List ℕ
type_name types.NotYet = codes "NotYet"
type_name types.AsyncReached = codes "AsyncReached"
type_name types.EmptyTypeReached = codes "EmptyTypeReached"
type_name types.TooManyFlags = codes "TooManyFlags"
type_name types.OutOfMemory = codes "OutOfMemory"

abbrev pub name : Fault → List ℕ
name faults.NotYet = codes "NotYet"
name faults.NoModule = codes "NoModule"
name faults.NoWorld = codes "NoWorld"
name faults.ExportUnsupplied = codes "ExportUnsupplied"
name faults.ExportNotInWorld = codes "ExportNotInWorld"
name (faults.BadModule cause) = module_name cause
name faults.UnknownAdapter = codes "UnknownAdapter"
name faults.DuplicateModule = codes "DuplicateModule"
name (faults.Linking fault) = link.name fault
name faults.NoMemory = codes "NoMemory"
name faults.NoRealloc = codes "NoRealloc"
name (faults.Types fault) = type_name fault
name faults.OutOfMemory = codes "OutOfMemory"

-- its place in a text: none has one
abbrev pub place : Fault → Option (List ℕ)
place fault = None
