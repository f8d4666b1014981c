use Rattle.std.proofs.Common.{take}
use Rattle.std.specs.Prelude.{Any}
use Rattle.core_links.specs.Names.{names_in}
use Rattle.linked_components.specs.Tracks.{HasOtherText}
use Rattle.linked_components.proofs.tracks.names_change.Given as goal

abbrev pub invariant-loop-entry : goal.invariant-loop-entry
invariant-loop-entry l = Any (HasOtherText (names_in l.names)) (take l.entry l.names.world.now.imports.entries) → ⊥
