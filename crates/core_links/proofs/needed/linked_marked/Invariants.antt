use Rattle.std.proofs.Common.{◌≡◌, map, take}
use Rattle.core_links.specs.Marks.{is_marked, picked}
use Rattle.core_links.specs.Needed.{functions_of}
use Rattle.core_links.proofs.needed.linked_marked.Given as goal

abbrev pub invariant-loop-place : goal.invariant-loop-place
invariant-loop-place l = map (λ f. f.now) l.found.items ≡ picked (is_marked l.marks) (take l.place (functions_of l.interface))
