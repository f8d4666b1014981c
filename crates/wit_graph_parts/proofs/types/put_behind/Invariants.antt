use Rattle.std.proofs.Common.{◌≡◌, ◌++◌, List}
use Rattle.wit_types.specs.declared.interface.TypeDef.{TypeDef}
use Rattle.wit_graph_parts.proofs.types.put_behind.Given as goal

abbrev pub invariant-loop-def : goal.invariant-loop-def
invariant-loop-def l = (done : List TypeDef) × (l.fn.defs.items ≡ done ++ l.def-iterator.rest.items) × (l.types ≡ l.initial.types ++ done)
