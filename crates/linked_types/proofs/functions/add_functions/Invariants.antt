use Rattle.std.proofs.Common.{◌≡◌, ◌++◌, take}
use Rattle.linked_types.specs.Reached.{functions, ids_of, AreLinked}
use Rattle.linked_types.proofs.functions.add_functions.Given as goal

abbrev pub invariant-loop-function : goal.invariant-loop-function
invariant-loop-function l = record {
  ids : l.ids.items ≡ l.initial.ids.items ++ ids_of (functions (take l.function-index l.functions));
  linked : AreLinked (functions (take l.function-index l.functions));
}
