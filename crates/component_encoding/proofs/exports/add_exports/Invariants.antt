use Rattle.std.proofs.Common.{map}
use Rattle.wasm_types.specs.Entries.{export_value}
use Rattle.type_writing.specs.Writing.{Begins}
use Rattle.component_encoding.proofs.Exported.{AreExportedBy}
use Rattle.component_encoding.proofs.exports.add_exports.Given as goal

abbrev pub invariant-loop-place : goal.invariant-loop-place
invariant-loop-place l = Begins l.initial.builder l.builder × AreExportedBy (map export_value l.exports) l.links (map (λ f. f.now) l.functions) l.types l.instance l.initial.builder l.builder l.shared l.place
