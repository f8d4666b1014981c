-- The order of lines.
use Rattle.std.specs.Prelude.{ℕ, List, Option}
use Rattle.std.specs.Ordering.{ordering_then, nat_cmp}
use Rattle.std.specs.Option.{option_cmp}
use Rattle.std.specs.declared.cmp.Ordering.{Ordering}
use Rattle.std.specs.Cmp.Lexicographic.{slice_cmp}
use Rattle.link_lines.specs.declared.line.LinkSide.{LinkSide}
use Rattle.link_lines.specs.declared.line.LinkSide.TheVariants.{Import, Export, Dtor, Start}
use Rattle.link_lines.specs.Line.{LinkValue}

-- imports first, then exports, destructors, and what is called at the start
abbrev pub side_place : LinkSide → ℕ
side_place Import = 0
side_place Export = 1
side_place Dtor = 2
side_place Start = 3

abbrev pub text_cmp : Option (List ℕ) → Option (List ℕ) → Ordering
text_cmp = option_cmp (slice_cmp nat_cmp)

-- by side, and then by the bytes of module, name and item
abbrev pub line_cmp : LinkValue → LinkValue → Ordering
line_cmp a b =
    ordering_then (nat_cmp (side_place a.side) (side_place b.side))
    (ordering_then (ordering_then (text_cmp a.«module» b.«module») (text_cmp a.name b.name)) (text_cmp a.item b.item))
