use Rattle.std.proofs.Common.{ap, ◌∙◌}
use Rattle.std.proofs.lemmas.Option.{slice_get_within}
use Rattle.wit_core_items.specs.World.{core_imports}
use Rattle.core_links.specs.Names.{counts_legacy}
use Rattle.core_links.proofs.Meanings.{means_within, place_at, one_there, read_at}
use Rattle.core_links.proofs.imports.ImportLinks.place.Goals as goal

pub place-requires : goal.place-requires
place-requires c =
    let (n, is, l, within) = c.requires.links in
    let one = one_there is c.args.index within in
    let at = place_at c.args.self.now.places.items is c.args.index c.index.result.now l.places.so_many within c.index.ensures in
    (n.known, n.world, counts_legacy n, l.reader, means_within n one.0 c.index.result.now (l.places.each c.args.index one.0 c.index.result.now one.1 at))

pub returns : goal.returns
returns c n is i l at =
    let place = place_at c.args.self.now.places.items is c.args.index c.index.result.now l.places.so_many (slice_get_within is c.args.index i at) c.index.ensures in
    read_at n i c.index.result.now c.place.result (l.places.each c.args.index i c.index.result.now at place) (c.place.ensures n.known n.world (counts_legacy n) l.reader)
