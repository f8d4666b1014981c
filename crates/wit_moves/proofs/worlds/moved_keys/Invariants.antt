use Rattle.std.proofs.Common.{◌≡◌, ◌++◌, map}
use Rattle.wit_moves.specs.Moved.{to}
use Rattle.wit_moves.specs.Worlds.{moved_entry}
use Rattle.wit_moves.proofs.worlds.moved_keys.Given as goal

abbrev pub invariant-loop-key : goal.invariant-loop-key
invariant-loop-key l = l.found.items ++ map (moved_entry (to l.interfaces)) l.key-iterator ≡ map (moved_entry (to l.interfaces)) l.fn.side.entries
