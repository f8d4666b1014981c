use Rattle.std.proofs.Common.{map, take}
use Rattle.command_line.specs.Line.{AreInputs}
use Rattle.command_line.proofs.line.inputs_of.Given as goal

abbrev pub invariant-loop-word : goal.invariant-loop-word
invariant-loop-word l = AreInputs (map (λ w. w.now) (take l.word-index l.words)) l.inputs.items
