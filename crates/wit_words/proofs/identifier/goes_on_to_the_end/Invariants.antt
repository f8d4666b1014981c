use Rattle.std.proofs.Common.{◌≡◌, drop}
use Rattle.wit_words.specs.Identifier.{goes_on, is_identifier}
use Rattle.wit_words.proofs.identifier.goes_on_to_the_end.Given as goal

abbrev pub invariant-loop-byte : goal.invariant-loop-byte
invariant-loop-byte l = goes_on l.part (drop l.byte-index l.text) ≡ is_identifier l.text
