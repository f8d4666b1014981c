use Rattle.std.proofs.Common.{◌≡◌, ◌+◌, length}
use denote.Shadow.{shadow}
use denote.Text.{Utf8}
use Rattle.wit_tokens.specs.Lex.{read_bare, kept, with_front}
use Rattle.wit_tokens.proofs.tokens.tokens_of.Given as goal

abbrev pub invariant-loop-rest : goal.invariant-loop-rest
invariant-loop-rest l = record {
  text : shadow (Utf8 l.rest);
  within : l.at + length l.rest ≡ l.start + length l.text;
  tokens : with_front (kept l.kept) (read_bare l.at l.rest) ≡ read_bare l.start l.text;
}

abbrev pub decreases-loop-rest : goal.decreases-loop-rest
decreases-loop-rest l = length l.rest
