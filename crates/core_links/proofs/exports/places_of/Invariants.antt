use Rattle.std.specs.Prelude.{map}
use Rattle.wasm_types.specs.Entries.{export_value}
use Rattle.core_links.proofs.Found.{ReadsFirst}
use Rattle.core_links.proofs.exports.places_of.Given as goal

abbrev pub invariant-loop-place : goal.invariant-loop-place
invariant-loop-place l = ReadsFirst (map export_value l.exports) l.place l.places
