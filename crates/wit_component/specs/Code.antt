-- The codes and names of causes, which are part of what the program prints.
use Rattle.std.specs.Prelude.{ℕ, List, Option, Some, None, codes}
use Rattle.wit_component.specs.declared.fault.Fault.{Fault}
use Rattle.wit_component.specs.declared.fault.Fault.TheVariants as faults

-- want of memory has no code
abbrev pub code : Fault → Option (List ℕ)
code faults.NotYet = Some (codes "X1")
code faults.DuplicateImport = Some (codes "B7")
code faults.UnknownImport = Some (codes "B8")
code faults.Ambiguous = Some (codes "B9")
code faults.LegacyName = Some (codes "B10")
code faults.WrongCoreType = Some (codes "B11")
code faults.MissingCoreExport = Some (codes "B12")
code faults.TooLarge = Some (codes "B25")
code faults.OutOfMemory = None

abbrev pub name : Fault → List ℕ
name faults.NotYet = codes "NotYet"
name faults.DuplicateImport = codes "DuplicateImport"
name faults.UnknownImport = codes "UnknownImport"
name faults.Ambiguous = codes "Ambiguous"
name faults.LegacyName = codes "LegacyName"
name faults.WrongCoreType = codes "WrongCoreType"
name faults.MissingCoreExport = codes "MissingCoreExport"
name faults.TooLarge = codes "TooLarge"
name faults.OutOfMemory = codes "OutOfMemory"
