use Rattle.std.proofs.Common.{◌≡◌, take}
use Rattle.wit_interfaces.specs.Interfaces.{named_types}
use Rattle.wit_interfaces.proofs.interface.named_types.Given as goal

abbrev pub invariant-loop-place : goal.invariant-loop-place
invariant-loop-place l = named_types l.types.entries ≡ take l.place l.table
