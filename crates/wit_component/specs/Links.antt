-- The lines of the link table, in order.
use Rattle.std.specs.Prelude.{List, map, IsPermutation, IsSorted}
use Rattle.link_lines.specs.Line.{LinkValue}
use Rattle.link_lines.specs.Order.{line_cmp}
use Rattle.wit_component.specs.Linking.{Linking}
use Rattle.wit_component.specs.Table.{Entry, table}

abbrev pub lines : List Entry → List LinkValue
lines es = map (λ (e : Entry). e.line) es

-- these are the links of a linking, in order
pub record AreLinks (l : Linking) (links : List LinkValue) : Type 0 where
  pub items : IsPermutation (lines (table l)) links
  pub order : IsSorted line_cmp links
