use Rattle.std.proofs.Common.{◌≡◌, ◌++◌, map}
use Rattle.std.proofs.Math.ListN.{drop}
use Rattle.wit_elaborated.specs.Elaborated as spec
use Rattle.wit_elaborated.proofs.imports.implied.Given as goal

abbrev pub invariant-loop-id : goal.invariant-loop-id
invariant-loop-id l = l.entries.items ++ map (spec.implied_entry l.interfaces) (drop l.id-index l.order) ≡ map (spec.implied_entry l.interfaces) l.order
