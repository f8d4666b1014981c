use Rattle.std.proofs.Common.{◌≡◌, ◌≤◌, map, take}
use Rattle.generated_sections.specs.Types.{import_value}
use Rattle.generated_sections.specs.Sections.{imported}
use Rattle.generated_sections.proofs.sections.imported.Given as goal

abbrev pub invariant-loop-import : goal.invariant-loop-import
invariant-loop-import l = (l.count ≡ imported l.kind (map import_value (take l.import-index l.imports))) × (l.count ≤ l.import-index)
