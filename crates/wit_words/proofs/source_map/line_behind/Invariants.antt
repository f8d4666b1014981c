use Rattle.std.proofs.Common.{◌≡◌, ◌≤◌, ◌+◌, take}
use Rattle.wit_words.specs.Sources.{line_behind}
use Rattle.wit_words.proofs.source_map.line_behind.Given as goal

abbrev pub invariant-loop-byte : goal.invariant-loop-byte
invariant-loop-byte l = (l.line ≡ line_behind (take l.byte-index l.front)) × (l.line ≤ l.byte-index + 1)
