use Rattle.std.proofs.Common.{◌<◌, length, map, arith}
use Rattle.std.specs.Prelude.{string_bytes}
use Rattle.core_links.specs.Names.{names_in}
use Rattle.linked_components.proofs.Following.{next_tracks}
use Rattle.linked_components.proofs.tracks.tracks_of.Goals as goal

pub loop-entry-preserved : goal.loop-entry-preserved
loop-entry-preserved c =
    let n = names_in c.args.names.now in
    let es = n.world.imports.entries in
    let k = c.loop-entry.entry in
    let size = c.len-entry-end.ensures.len in
    let lt = c.loop-entry-test.true in
    let within : k < length es = omega (arith, size, lt) in
    next_tracks n es k (map string_bytes c.loop-entry.tracks.items) (map string_bytes c.add_track.new.tracks.items) within c.in_ok-add_track.ensures c.loop-entry.invariant
