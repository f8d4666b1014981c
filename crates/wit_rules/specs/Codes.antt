-- The codes and names of the rules that files of a package break, which are part of what is printed of a refusal.
use Rattle.std.specs.Prelude.{ℕ, List, codes}
use Rattle.wit_rules.specs.declared.fault.PackageRule.{PackageRule}
use Rattle.wit_rules.specs.declared.fault.PackageRule.TheVariants.{NoPackageName, PackageMismatch, DuplicateName, NameNotFound, WrongKind, Cycle, BorrowInResult, BadConstructor, BadHandle, EmptyCases, BadGate, BadVersion}

abbrev pub code : PackageRule → List ℕ
code NoPackageName = codes "P1"
code PackageMismatch = codes "P2"
code DuplicateName = codes "P3"
code NameNotFound = codes "P4"
code WrongKind = codes "P5"
code Cycle = codes "P6"
code BorrowInResult = codes "P7"
code BadConstructor = codes "P8"
code BadHandle = codes "P9"
code EmptyCases = codes "P10"
code BadGate = codes "P11"
code BadVersion = codes "S5"

abbrev pub name : PackageRule → List ℕ
name NoPackageName = codes "NoPackageName"
name PackageMismatch = codes "PackageMismatch"
name DuplicateName = codes "DuplicateName"
name NameNotFound = codes "NameNotFound"
name WrongKind = codes "WrongKind"
name Cycle = codes "Cycle"
name BorrowInResult = codes "BorrowInResult"
name BadConstructor = codes "BadConstructor"
name BadHandle = codes "BadHandle"
name EmptyCases = codes "EmptyCases"
name BadGate = codes "BadGate"
name BadVersion = codes "BadVersion"
