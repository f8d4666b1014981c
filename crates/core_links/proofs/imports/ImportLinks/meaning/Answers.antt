use Rattle.wit_core_names.specs.Items.{import_of}
use Rattle.std.proofs.lemmas.Option.{slice_get_within}
use Rattle.core_links.specs.Names.{names_in}
use Rattle.core_links.proofs.Meanings.{means_within, stands_for, place_at, one_there}
use Rattle.core_links.proofs.imports.ImportLinks.meaning.Goals as goal

pub item-requires-clause-place : goal.item-requires-clause-place
item-requires-clause-place c =
    let n = names_in c.args.names.now in
    let l = c.requires.links in
    let one = one_there l.0 c.args.index l.2 in
    let at = place_at c.args.self.now.places.items l.0 c.args.index c.index.result.now l.1.places.so_many l.2 c.index.ensures in
    means_within n one.0 c.index.result.now (l.1.places.each c.args.index one.0 c.index.result.now one.1 at)

pub returns : goal.returns
returns c is i l at =
    let n = names_in c.args.names.now in
    let place = place_at c.args.self.now.places.items is c.args.index c.index.result.now l.places.so_many (slice_get_within is c.args.index i at) c.index.ensures in
    stands_for n i c.index.result.now (import_of c.item.result) (l.places.each c.args.index i c.index.result.now at place) c.item.ensures
