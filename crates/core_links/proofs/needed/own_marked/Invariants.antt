use Rattle.std.proofs.Common.{◌≡◌, map, take}
use Rattle.core_links.specs.Marks.{is_marked, picked}
use Rattle.core_links.specs.Needed.{own_functions}
use Rattle.core_links.proofs.needed.own_marked.Given as goal

abbrev pub invariant-loop-entry : goal.invariant-loop-entry
invariant-loop-entry l = map (λ f. f.now) l.found.items ≡ own_functions (picked (is_marked l.marks) (take l.entry l.world.imports.entries))
