use Rattle.std.proofs.Common.{arith}
use Rattle.binary_grammar.specs.Syntax.{begins, some_name}
use Rattle.binary_grammar.proofs.Inside.{can_move}
use Rattle.component_definitions.specs.Passed.component_value_types-declared-scope-Scope.{Scope}
use Rattle.component_definitions.specs.Passed.component_value_types-Scope.{no_scope}
use Rattle.component_entries.proofs.nested.custom_name.Goals as goal

pub moved-requires : goal.moved-requires
moved-requires c = can_move (begins (some_name {C = Scope})) no_scope c.in_ok-inside.inside.left c.left.result c.in-Err.e c.in-Err.ensures (omega (arith, c.in_ok-inside.ensures.inner.1))
