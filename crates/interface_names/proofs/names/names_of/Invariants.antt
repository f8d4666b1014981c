use Rattle.std.proofs.Common.{◌≡◌, map}
use Rattle.std.specs.Prelude.{string_bytes}
use Rattle.interface_names.specs.Found.{or_empty, texts_of}
use Rattle.interface_names.proofs.names.names_of.Given as goal

abbrev pub invariant-loop-text : goal.invariant-loop-text
invariant-loop-text l = map string_bytes l.names.items ≡ or_empty (texts_of l.yielded)
