-- What a component that is being made has.
use Rattle.std.specs.Prelude.{ℕ, List, map}
use Rattle.binary_grammar.specs.Several.{grown}
use Rattle.component_value_types.specs.declared.scope.Scope.{Scope}
use Rattle.component_definitions.specs.Counting.{with_one, count_in}
use Rattle.component_sections.specs.Component.{DefinitionValue, space_of}
use Rattle.component_value_types.specs.Scope.{no_scope}

abbrev pub with_space : Scope → DefinitionValue → Scope
with_space there d = with_one there (space_of d)

-- how many there are of each sort (Component Model, Explainer, Index Spaces)
abbrev pub scope_of : List DefinitionValue → Scope
scope_of ds = grown with_space no_scope ds

-- the index that a definition takes behind these
abbrev pub index_behind : List DefinitionValue → DefinitionValue → ℕ
index_behind ds d = count_in (scope_of ds) (space_of d)
