use Rattle.std.proofs.Common.{◌≡◌, ◌++◌, List}
use Rattle.wit_types.specs.declared.interface.TypeDef.{TypeDef}
use Rattle.wit_joined.proofs.includes.add_types.Given as goal

abbrev pub invariant-loop-def : goal.invariant-loop-def
invariant-loop-def l = record {
  left : l.types ++ l.def-iterator.rest.items ≡ l.fn.types ++ l.fn.defs.items;
  grown : (more : List TypeDef) × (l.types ≡ l.fn.types ++ more);
}
