use Rattle.std.proofs.Common.{◌≡◌, length, take}
use Rattle.wit_interfaces.specs.Interfaces.{functions_in, AreNamed}
use Rattle.wit_interfaces.proofs.interface.function_pairs.Given as goal

abbrev pub invariant-loop-function : goal.invariant-loop-function
invariant-loop-function l = (functions_in l.pairs.items ≡ take (length l.yielded) l.fn.functions.items) × AreNamed l.pairs.items
