use Rattle.std.proofs.Common.{◌≡◌, ◌+◌, ◌<◌, ◌^◌, length}
use denote.Shadow.{shadow}
use denote.Text.{Utf8}
use Rattle.wit_tokens.specs.Items.{items_of}
use Rattle.wit_tokens.specs.Lex.{read_bare}
use Rattle.wit_tokens.proofs.token_iterator.next_item.Given as goal

abbrev pub invariant-loop-rest : goal.invariant-loop-rest
invariant-loop-rest l = record {
  text : shadow (Utf8 l.rest);
  fits : l.at + length l.rest < 2 ^ 32;
  items : items_of (read_bare l.at l.rest) ≡ items_of (read_bare l.start l.text);
}

abbrev pub decreases-loop-rest : goal.decreases-loop-rest
decreases-loop-rest l = length l.rest
