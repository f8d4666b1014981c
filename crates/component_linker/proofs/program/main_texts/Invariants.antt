use Rattle.std.proofs.Common.{◌≡◌, take}
use Rattle.std.specs.List.{flat_map}
use Rattle.component_session.specs.GroupView.{texts}
use Rattle.component_linker.specs.Program.{main_text}
use Rattle.component_linker.proofs.program.main_texts.Given as goal

abbrev pub invariant-loop-input : goal.invariant-loop-input
invariant-loop-input l = texts l.found.items ≡ flat_map (main_text l.files) (take l.input-index l.inputs)
