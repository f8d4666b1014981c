use Rattle.std.proofs.Common.{map, take}
use Rattle.link_lines.specs.Line.{link_value}
use Rattle.link_table.specs.Linking.{linking_value}
use Rattle.link_table.specs.Lines.{IsImportLine}
use Rattle.link_table.specs.Pairwise.{Pairwise}
use Rattle.link_table.specs.View.{IsTableOf}
use Rattle.link_table.proofs.table.LinkTable.import_lines.Given as goal

abbrev pub invariant-loop-index : goal.invariant-loop-index
invariant-loop-index l = (is : IsTableOf (linking_value l.linking) l.self) → Pairwise (IsImportLine (linking_value l.linking)) (take l.index is.table.imports) (map link_value l.lines.items)
