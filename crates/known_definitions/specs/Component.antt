-- Components of definitions that index meaning knows (Component Model Binary, Component Definitions).
use Rattle.std.specs.Prelude.{◌≡◌, ℕ, List, map, None}
use Rattle.binary_grammar.specs.Syntax.{IsTyped}
use Rattle.component_sections.specs.Component as whole
use Rattle.plain_worlds.specs.World.{each_of}
use Rattle.known_definitions.specs.Definition.{DefinitionValue}
use Rattle.known_definitions.specs.Known.{definition_of, known_of}

-- the bytes are a component of these definitions
abbrev pub IsComponent : List ℕ → List DefinitionValue → Type 0
IsComponent bytes ds = whole.IsComponent bytes (map definition_of ds)

-- the bytes are a component, of which a definition isn't known
abbrev pub HasUnknown : List ℕ → Type 0
HasUnknown bytes = (ds : List whole.DefinitionValue) × whole.IsComponent bytes ds × (each_of known_of ds ≡ None)

-- 32 bits can say every index, count and size of the component
abbrev pub Fits : List DefinitionValue → Type 0
Fits ds = IsTyped whole.component (map definition_of ds)
