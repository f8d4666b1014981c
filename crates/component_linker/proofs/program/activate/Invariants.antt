use Rattle.std.proofs.Common.{◌≡◌, take}
use Rattle.component_linker.proofs.Opened.{named}
use Rattle.component_linker.proofs.program.activate.Given as goal

abbrev pub invariant-loop-feature : goal.invariant-loop-feature
invariant-loop-feature l = l.session ≡ record l.fn.session { resolved = record l.fn.session.resolved { features = record l.fn.session.resolved.features { names = named (take l.feature-index l.line.features.items) } } }
