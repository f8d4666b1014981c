use Rattle.std.proofs.Common.{◌≡◌, ◌++◌, map, flat_map, take}
use Rattle.generated_sections.specs.Types.{import_value}
use Rattle.generated_modules.specs.Parts.{table_in}
use Rattle.generated_modules.proofs.parts.table_space.Given as goal

abbrev pub invariant-loop-import : goal.invariant-loop-import
invariant-loop-import l = l.space.items ≡ flat_map (λ i. table_in i.ty) (map import_value (take l.import-index l.imports))

abbrev pub invariant-loop-table : goal.invariant-loop-table
invariant-loop-table l = l.space.items ≡ flat_map (λ i. table_in i.ty) (map import_value l.imports) ++ take l.table-index l.tables
