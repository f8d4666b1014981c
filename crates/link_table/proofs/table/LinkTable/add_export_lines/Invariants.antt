use Rattle.std.proofs.Common.{map, take}
use Rattle.link_lines.specs.Line.{link_value}
use Rattle.link_table.specs.Linking.{linking_value}
use Rattle.link_table.specs.Lines.{AreAdded}
use Rattle.link_table.specs.View.{IsTableOf}
use Rattle.link_table.proofs.table.LinkTable.add_export_lines.Given as goal

abbrev pub invariant-loop-index : goal.invariant-loop-index
invariant-loop-index l = (is : IsTableOf (linking_value l.linking) l.self) → AreAdded (take l.index is.table.exports) (map link_value l.initial.lines.items) (map link_value l.lines.items)
