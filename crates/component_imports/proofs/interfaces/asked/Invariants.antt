use Rattle.std.proofs.Common.{◌≡◌, take}
use Rattle.component_imports.specs.Interfaces.{asked, linked_of}
use Rattle.component_imports.proofs.interfaces.asked.Given as goal

abbrev pub invariant-loop-functions : goal.invariant-loop-functions
invariant-loop-functions l = l.ids.items ≡ asked l.others (linked_of (take l.functions-index l.linked))
