use Rattle.std.proofs.Common.{◌≡◌, ◌+◌, ◌≤◌, drop}
use Rattle.wit_tokens.specs.Lex.{comment_from}
use Rattle.wit_tokens.proofs.lex.comment_len.Given as goal

abbrev pub invariant-loop-at : goal.invariant-loop-at
invariant-loop-at l = (comment_from l.depth l.last l.at (drop l.at l.rest) ≡ comment_from 1 0 0 l.rest) × (1 ≤ l.depth) × (l.depth ≤ l.at + 1)
