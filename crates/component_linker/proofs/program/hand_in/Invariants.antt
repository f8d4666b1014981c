use Rattle.std.proofs.Common.{◌≡◌, take}
use Rattle.component_linker.specs.Program.{last_main, AreModules}
use Rattle.component_linker.proofs.program.hand_in.Given as goal

abbrev pub invariant-loop-input : goal.invariant-loop-input
invariant-loop-input l = AreModules l.files l.fn.session.resolved l.«package» l.line (last_main (take l.input-index l.line.inputs.items)) l.session.modules
    × (l.session ≡ record l.fn.session { modules = l.session.modules })
