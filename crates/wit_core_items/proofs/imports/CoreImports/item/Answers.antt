use Rattle.std.proofs.Common.{is_some, sym, ap, ◌∙◌}
use Rattle.wit_core_names.specs.Texts.{known}
use Rattle.wit_core_items.specs.ImportPlaces.{import_at}
use Rattle.wit_core_items.specs.World.{core_imports}
use Rattle.wit_core_items.proofs.Placing.{are_read}
use Rattle.wit_core_items.proofs.imports.CoreImports.item.Goals as goal

pub import_at-requires : goal.import_at-requires
import_at-requires c =
    let k = known c.args.tables.now in
    let w = c.args.world.now in
    let (x, is, there) = are_read (import_at k w) c.args.self.now.places.items (core_imports k w) c.requires.reader.1.places c.args.place c.index.result.now c.requires.place c.index.ensures in
    ap is_some is

pub returns : goal.returns
returns c =
    let k = known c.args.tables.now in
    let w = c.args.world.now in
    let (x, is, there) = are_read (import_at k w) c.args.self.now.places.items (core_imports k w) c.requires.reader.1.places c.args.place c.index.result.now c.requires.place c.index.ensures in
    there ∙ sym is ∙ c.import_at.ensures
