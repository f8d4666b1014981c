use Rattle.std.proofs.Common.{◌≡◌, ◌≤◌, map, take}
use Rattle.wasm_types.specs.Entries.{import_value}
use Rattle.wasm_sections.specs.Module.{imported}
use Rattle.wasm_sections.proofs.sections.imported.Given as goal

abbrev pub invariant-loop-import : goal.invariant-loop-import
invariant-loop-import l = (l.count ≡ imported l.kind (map import_value (take l.import-index l.imports))) × (l.count ≤ l.import-index)
