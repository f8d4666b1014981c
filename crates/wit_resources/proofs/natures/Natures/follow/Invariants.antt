use Rattle.std.proofs.Common.{◌≡◌, ◌++◌, List, take}
use Rattle.wit_resources.specs.Natures.{natures}
use Rattle.wit_resources.specs.declared.natures.Nature.{Nature}
use Rattle.wit_resources.proofs.natures.Natures.follow.Given as goal

abbrev pub invariant-loop-index : goal.invariant-loop-index
invariant-loop-index l =
    (l.self-inside.known.items ≡ natures (take l.index l.types))
    × ((more : List Nature) × (l.self-inside.known.items ≡ l.initial.self-inside.known.items ++ more))
