use Rattle.std.proofs.Common.{◌≡◌, drop}
use Rattle.wit_productions.specs.TypeGrammar.{decimal, list_length}
use Rattle.wit_productions.proofs.Decimals.{length_from}
use Rattle.wit_productions.proofs.parse_types.list_length.Given as goal

abbrev pub invariant-loop-byte : goal.invariant-loop-byte
invariant-loop-byte l = length_from l.value (drop l.byte-index l.digits) ≡ list_length (decimal l.digits)
