use Rattle.std.proofs.Common.{◌≡◌, drop}
use Rattle.std.specs.Prelude.{filter}
use Rattle.command_line.specs.Line.{is_component}
use Rattle.component_linker.proofs.program.component_in.Given as goal

abbrev pub invariant-loop-input : goal.invariant-loop-input
invariant-loop-input l = filter is_component l.inputs ≡ filter is_component (drop l.input-index l.inputs)
