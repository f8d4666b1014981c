use Rattle.std.proofs.Common.{List, ◌++◌, drop}
use Rattle.wit_types.specs.declared.interface.TypeDef.{TypeDef}
use Rattle.wit_copies.specs.Copies as spec
use Rattle.wit_copies.proofs.copies.copied_defs.Given as goal

abbrev pub invariant-loop-id : goal.invariant-loop-id
invariant-loop-id l = (more : List TypeDef) → spec.AreCopied l.copies l.from l.into l.types (drop l.id-index l.ids) more → spec.AreCopied l.copies l.from l.into l.types l.ids (l.found.items ++ more)
