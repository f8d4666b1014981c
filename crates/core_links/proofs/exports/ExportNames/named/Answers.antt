use Rattle.std.specs.declared.borrow.CowStr.TheVariants.{Borrowed}
use Rattle.std.specs.Cow.{cow_str_bytes}
use Rattle.std.proofs.Common.{ℕ}
use Rattle.wit_core_items.specs.Growing.{Name, name_eq}
use Rattle.wit_core_items.proofs.Growing.{reads_read}
use Rattle.core_links.specs.Exports.{HasName}
use Rattle.core_links.specs.Names.{counts_legacy}
use Rattle.core_links.proofs.Found.{place_found}
use Rattle.core_links.proofs.exports.ExportNames.named.Goals as goal

pub returns-clause-found : goal.returns-clause-found
returns-clause-found c n es l =
    let read = reads_read name_eq (λ (q : Name) (i : ℕ). HasName es (cow_str_bytes q) i) c.args.self.now.places (Borrowed c.args.name) c.get-found.result l.places c.get-found.ensures.read in
    (place_found n es c.args.name.now c.get-found.result c.read.result c.one_place.result read (c.read.ensures n.known n.world (counts_legacy n) l.reader) c.one_place.ensures).0

pub returns-clause-cause : goal.returns-clause-cause
returns-clause-cause c n es l =
    let read = reads_read name_eq (λ (q : Name) (i : ℕ). HasName es (cow_str_bytes q) i) c.args.self.now.places (Borrowed c.args.name) c.get-found.result l.places c.get-found.ensures.read in
    (place_found n es c.args.name.now c.get-found.result c.read.result c.one_place.result read (c.read.ensures n.known n.world (counts_legacy n) l.reader) c.one_place.ensures).1
