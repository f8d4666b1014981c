use Rattle.std.proofs.Common.{◌≡◌, drop}
use Rattle.component_linker.specs.Program.{file_at}
use Rattle.component_linker.proofs.program.bytes_at.Given as goal

abbrev pub invariant-loop-name : goal.invariant-loop-name
invariant-loop-name l = file_at l.files l.path ≡ file_at (drop l.name-index l.files) l.path
