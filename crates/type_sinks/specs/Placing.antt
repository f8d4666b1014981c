-- Where what is written may stand (Component Model Binary, Component Definitions, Type Definitions).
use Rattle.std.specs.Prelude.{◌≡◌, ◌≤◌, ℕ, List, [], length, map, false}
use Rattle.binary_grammar.specs.Several.{grown}
use Rattle.binary_grammar.specs.Syntax.{Meets, EachWhere}
use Rattle.component_value_types.specs.Scope.{no_scope}
use Rattle.component_definitions.specs.Counting.{inside}
use Rattle.component_sections.specs.Passed.component_instances-Declarators.{DeclaratorValue, DeclaredValue, declarator, declared_with}
use Rattle.component_sections.specs.Passed.component_entries-Entries.{EntryValue, DefinedValue, nothing}
use Rattle.component_sections.specs.Component.{DefinitionValue, an_entry, with_definition, Follow}
use Rattle.type_writing.specs.Passed.type_meaning-Scope.{Scope, meaning}
use Rattle.type_sinks.specs.Imports.{entry_names}

abbrev pub as_definitions : List EntryValue → List DefinitionValue
as_definitions es = map (λ e. an_entry e) es

-- each entry may stand behind those before it
abbrev pub ArePlaced : List EntryValue → Type 0
ArePlaced es = Follow nothing (as_definitions es)

-- ---- what is known behind entries

-- as many of each sort as indices stand for something, and the names of imports and exports
abbrev pub known_of : Scope → DefinedValue
known_of s = record {
  nested = false;
  scope = record no_scope { types = length s.types; functions = length s.functions; instances = length s.instances };
  imports = entry_names s.imports;
  exports = entry_names s.exports;
}

-- that is all where each entry may stand
abbrev pub KnownIsWhatStands : Type 0
KnownIsWhatStands = (es : List EntryValue) → ArePlaced es → grown with_definition nothing (as_definitions es) ≡ known_of (meaning es)

-- ---- in the type of an instance

-- what is known where no declarator stands yet, in a component with so many types
abbrev pub nothing_declared : ℕ → DeclaredValue
nothing_declared n = record { scope = inside (record no_scope { types = n }); names = [] }

-- each declarator may stand behind those before it
abbrev pub DeclaratorsFollow : ℕ → List DeclaratorValue → Type 0
DeclaratorsFollow n ds = EachWhere (Meets declarator) declared_with (nothing_declared n) ds

-- so it is in a component with so many types or more
abbrev pub AreDeclaratorsPlaced : ℕ → List DeclaratorValue → Type 0
AreDeclaratorsPlaced n ds = (m : ℕ) → n ≤ m → DeclaratorsFollow m ds
