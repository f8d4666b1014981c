-- What is written, seen among all definitions of components (Component Model Binary).
use Rattle.std.specs.Prelude.{List, map}
use Rattle.component_sections.specs.declared.section.Definition.{Definition}
use Rattle.component_sections.specs.Component as whole
use Rattle.known_definitions.specs.Definition.{DefinitionValue}
use Rattle.known_definitions.specs.Known.{definition_of}

abbrev pub written : List Definition → List whole.DefinitionValue
written ds = map whole.definition_value ds

abbrev pub among : List DefinitionValue → List whole.DefinitionValue
among ds = map definition_of ds
