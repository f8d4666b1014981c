use Rattle.std.proofs.Common.{◌≡◌, take}
use Rattle.type_sinks.specs.Kept.{index_of}
use Rattle.type_sinks.specs.Views.{RootIsPlaced}
use Rattle.component_imports.specs.Functions.{functions_of, HaveParametersApart}
use Rattle.component_imports.specs.World.{AreTypesWritten}
use Rattle.component_imports.proofs.world.write_functions.Given as goal

abbrev pub invariant-loop-function : goal.invariant-loop-function
invariant-loop-function l = AreTypesWritten l.initial.root l.root l.types (functions_of (take l.function-index l.functions)) l.indices.items × (index_of l.root.known ≡ index_of l.initial.root.known) × (HaveParametersApart (functions_of l.functions) → RootIsPlaced l.initial.root → RootIsPlaced l.root)
