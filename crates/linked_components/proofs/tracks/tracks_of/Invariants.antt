use Rattle.std.proofs.Common.{◌≡◌, map, take}
use Rattle.std.specs.Prelude.{string_bytes}
use Rattle.std.specs.List.{flat_map}
use Rattle.core_links.specs.Names.{names_in}
use Rattle.linked_components.specs.Tracks.{track_of}
use Rattle.linked_components.proofs.tracks.tracks_of.Given as goal

abbrev pub invariant-loop-entry : goal.invariant-loop-entry
invariant-loop-entry l = map string_bytes l.tracks.items ≡ flat_map (track_of (names_in l.names)) (take l.entry l.names.world.now.imports.entries)
