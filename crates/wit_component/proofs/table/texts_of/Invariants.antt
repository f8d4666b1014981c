use Rattle.std.proofs.Common.{map, take}
use Rattle.wasm_types.specs.Entries.{ExportValue, export_value}
use Rattle.wit_component.specs.Candidates.{candidates, Notes}
use Rattle.wit_component.proofs.table.texts_of.Given as goal

abbrev pub invariant-loop-place : goal.invariant-loop-place
invariant-loop-place l = Notes (λ (e : ExportValue). e.name) (map export_value (take l.place l.exports)) (candidates l.texts)
