use Rattle.std.proofs.Common.{◌≡◌, drop}
use Rattle.component_linker.specs.Program.{file_fault}
use Rattle.component_linker.proofs.program.look_at_files.Given as goal

abbrev pub invariant-loop-input : goal.invariant-loop-input
invariant-loop-input l = file_fault l.files l.inputs ≡ file_fault l.files (drop l.input-index l.inputs)
