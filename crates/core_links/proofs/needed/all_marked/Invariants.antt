use Rattle.std.proofs.Common.{take}
use Rattle.core_links.specs.Marks.{ArePicked}
use Rattle.core_links.specs.View.{linked_of}
use Rattle.core_links.proofs.needed.all_marked.Given as goal

abbrev pub invariant-loop-index : goal.invariant-loop-index
invariant-loop-index l = ArePicked (take l.index l.interfaces) l.marks (linked_of l.found.items)
