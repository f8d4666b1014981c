use Rattle.std.proofs.Common.{List, ◌++◌}
use Rattle.wit_types.specs.declared.interface.TypeDef.{TypeDef}
use Rattle.wit_includes.specs.Included as spec
use Rattle.wit_includes.proofs.names.renamed_defs.Given as goal

abbrev pub invariant-loop-def : goal.invariant-loop-def
invariant-loop-def l = (more : List TypeDef) → spec.AreRenamedDefs l.renames l.world l.def-iterator.rest.items more → spec.AreRenamedDefs l.renames l.world l.fn.defs.items (l.found.items ++ more)
