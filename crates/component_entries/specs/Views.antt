-- What contracts see of what is known where a definition stands.
use Rattle.component_entries.specs.declared.defined.Defined.{Defined}
use Rattle.component_entries.specs.Entries.{DefinedValue}

abbrev pub defined_value : Defined → DefinedValue
defined_value d = record { nested = d.nested; scope = d.scope; imports = d.imports; exports = d.exports }
