use Rattle.std.proofs.Common.{map}
use Rattle.link_lines.specs.Line.{link_value}
use Rattle.link_table.proofs.table.LinkTable.links.Goals as goal

pub returns : goal.returns
returns c = λ is.
    let added = c.in_ok-add_export_lines.ensures is in
    record {
      entries = map link_value c.add_export_lines.new.lines.items;
      entries_are = record {
        imports = map link_value c.in_ok-lines.lines.items;
        exports = added.lines;
        imports_are = c.in_ok-lines.ensures is;
        exports_are = added.lines_are;
        are = added.are;
      };
      items = c.in_ok-sort_lines.ensures.permutation;
      order = c.in_ok-sort_lines.ensures.sorted;
    }
