use Rattle.std.proofs.Common.{take}
use Rattle.std.specs.List.{flat_map}
use Rattle.std.specs.Io.KnownBytes.{Appends}
use Rattle.component_linker.proofs.program.write_texts.Given as goal

abbrev pub invariant-loop-text : goal.invariant-loop-text
invariant-loop-text g l = Appends (g.E.Write.contents l.fn.err) (g.E.Write.contents l.err) (flat_map (λ t. t.now) (take l.text-index l.texts))
