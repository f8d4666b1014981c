use Rattle.std.proofs.Common.{◌≡◌, ◌++◌, map, flat_map, take}
use Rattle.wasm_types.specs.Entries.{export_value}
use Rattle.generated_modules.specs.Shape.{exported_in}
use Rattle.generated_modules.proofs.named.push_exported.Given as goal

abbrev pub invariant-loop-export : goal.invariant-loop-export
invariant-loop-export l = l.out.items ≡ l.initial.out.items ++ flat_map exported_in (map export_value (take l.export-index l.exports))
