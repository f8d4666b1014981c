-- What keeps the rules of its parts keeps its own.
use Rattle.std.proofs.Common.{List}
use Rattle.wit_lookups.specs.Passed.wit_scopes-Members.{MemberKind, MemberTree}
use Rattle.wit_lookups.specs.Passed.wit_type_names-TypeNames.{handles_in_member}
use Rattle.wit_lookups.specs.Passed.wit_rules-Breaks.{IsKept, AnyBreaks}
use Rattle.wit_resources.specs.Passed.wit_arena-Table.{Entries}
use Rattle.wit_resources.specs.Failing.{HandleFails}
use Rattle.wit_resources.specs.Rules.{DeclaresOther}
use Rattle.wit_resources.specs.declared.natures.Nature.{Nature}
use Rattle.wit_resolved_scopes.specs.Faults as fault
use Rattle.wit_resolved_scopes.specs.Faults.{MemberFails}

pub none_fails : (ns : List Nature) (table : Entries) (types : List MemberTree) (k : MemberKind) → IsKept (AnyBreaks (HandleFails ns table) (handles_in_member k)) → IsKept (DeclaresOther types k) → IsKept (MemberFails ns table types k)
none_fails ns table types k handles declared rule at (fault.by_handle b) = handles rule at b
none_fails ns table types k handles declared rule at (fault.by_constructor b) = declared rule at b
