use Rattle.std.proofs.Common.{◌≡◌, ◌≤◌, ◌+◌, take}
use Rattle.wit_words.specs.Sources.{column_behind}
use Rattle.wit_words.proofs.source_map.column_behind.Given as goal

abbrev pub invariant-loop-byte : goal.invariant-loop-byte
invariant-loop-byte l = (l.column ≡ column_behind (take l.byte-index l.last)) × (l.column ≤ l.byte-index + 1)
