-- What a definition more adds.
use Rattle.std.proofs.Common.{◌≡◌, List, [], ◌∷◌, ◌++◌}
use Rattle.component_sections.specs.Component.{DefinitionValue}
use Rattle.component_value_types.specs.Scope.{no_scope}
use Rattle.component_builder.specs.Builder.{with_space, scope_of}
use Rattle.binary_grammar.proofs.Series.{grown_on}

pub scope_goes_on : (ds : List DefinitionValue) (d : DefinitionValue) → scope_of (ds ++ d ∷ []) ≡ with_space (scope_of ds) d
scope_goes_on ds d = grown_on with_space no_scope ds d
