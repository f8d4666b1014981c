use Rattle.std.specs.List.{AllByRecursion as Each}
use Rattle.type_sinks.specs.Passed.type_writing-Placing.{AreLabelsApart}
use Rattle.type_sinks.specs.Views.{RootIsPlaced}
use Rattle.component_imports.specs.Functions.{HaveParametersApart}
use Rattle.component_imports.specs.Interfaces.{linked_of}
use Rattle.component_imports.proofs.Needing.{AreImportedTo}
use Rattle.component_imports.proofs.interfaces.import_interfaces.Given as goal

abbrev pub invariant-loop-index : goal.invariant-loop-index
invariant-loop-index l = record {
  imported : AreImportedTo l.initial.root l.root l.types l.instances.items l.needed (linked_of l.linked) l.index;
  placed : AreLabelsApart l.types → Each HaveParametersApart (linked_of l.linked) → RootIsPlaced l.initial.root → RootIsPlaced l.root;
}
