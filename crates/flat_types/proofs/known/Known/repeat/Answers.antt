use Rattle.std.proofs.Common.{◌∙◌}
use Rattle.flat_types.proofs.Gathering.{repeated_more}
use Rattle.flat_types.proofs.known.Known.repeat.Goals as goal

pub loop-turn-preserved : goal.loop-turn-preserved
loop-turn-preserved c = c.in_ok-append.ensures ∙ repeated_more c.loop-turn._turn c.args.self.values.now c.loop-turn.values.items c.loop-turn.invariant
