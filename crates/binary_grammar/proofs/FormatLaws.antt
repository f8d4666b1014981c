-- The laws by which a composed format is read as it says.
use Rattle.binary_grammar.specs.Format.{name}
use Rattle.binary_grammar.proofs.Laws.{Law, bind_law, yield_law, refuse_law, judge_law, such_law, byte_law, chunk_law, exactly_law, begins_law, everything_law, keeping_law, sized_law}
use Rattle.binary_grammar.proofs.Numbers.{u32_law}

-- the laws of the combinators
pub ruleset laws = (bind_law, yield_law, refuse_law, judge_law, such_law, byte_law, chunk_law, u32_law, sized_law, exactly_law, begins_law, everything_law, keeping_law)

pub name_law : Law name
unfolding name
name_law = search laws
