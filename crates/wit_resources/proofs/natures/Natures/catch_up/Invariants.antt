use Rattle.std.proofs.Common.{◌≡◌, take}
use Rattle.wit_resources.specs.Natures.{natures}
use Rattle.wit_resources.proofs.natures.Natures.catch_up.Given as goal

abbrev pub invariant-loop-index : goal.invariant-loop-index
invariant-loop-index l = l.self-inside.known.items ≡ natures (take l.index l.types)
