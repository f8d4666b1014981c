use Rattle.std.proofs.Common.{take}
use Rattle.core_links.specs.Names.{names_in}
use Rattle.interface_names.specs.Found.{AreFilled, texts_of}
use Rattle.interface_names.proofs.names.put_others.Given as goal

abbrev pub invariant-loop-entry : goal.invariant-loop-entry
invariant-loop-entry l = AreFilled (names_in l.names) (take l.entry l.names.world.now.imports.entries) (texts_of l.initial.texts.items) (texts_of l.texts.items)
