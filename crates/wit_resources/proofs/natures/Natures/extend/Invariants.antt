use Rattle.std.proofs.Common.{◌≡◌, ◌++◌, List, drop}
use Rattle.wit_resources.specs.Natures.{natures_from}
use Rattle.wit_resources.specs.declared.natures.Nature.{Nature}
use Rattle.wit_resources.proofs.natures.Natures.extend.Given as goal

abbrev pub invariant-loop-def : goal.invariant-loop-def
invariant-loop-def l =
    (natures_from l.self-inside.known.items (drop l.def-index l.defs) ≡ natures_from l.initial.self-inside.known.items l.defs)
    × ((more : List Nature) × (l.self-inside.known.items ≡ l.initial.self-inside.known.items ++ more))
