use Rattle.std.proofs.Common.{arith}
use Rattle.std.specs.Prelude.{◌==◌}
use Rattle.binary_grammar.specs.declared.fault.Rule.TheVariants as rules
use Rattle.binary_grammar.specs.Syntax.{exactly, tested, number}
use Rattle.binary_grammar.proofs.Inside.{can_move}
use Rattle.component_entries.specs.Entries.{DefinedValue}
use Rattle.component_entries.specs.Entries.{nothing}
use Rattle.component_sections.proofs.section.core_types.Goals as goal

pub moved-requires : goal.moved-requires
moved-requires c = can_move (exactly (tested rules.Unsupported (λ _ n. n == 0) (number {C = DefinedValue}))) nothing c.in_ok-inside.inside.left c.left.result c.in-Err.e c.in-Err.ensures (omega (arith, c.in_ok-inside.ensures.inner.1))
