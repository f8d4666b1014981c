use Rattle.std.proofs.Common.{◌<◌, sym, ◌∙◌, arith, length}
use Rattle.std.proofs.lemmas.List.{length-map}
use Rattle.wit_core_items.specs.ImportPlaces.{import_at}
use Rattle.wit_core_items.specs.World.{core_imports}
use Rattle.wit_core_items.proofs.Placing.{are_read, as_many}
use Rattle.wit_core_items.proofs.imports.CoreImports.place.Goals as goal

pub index-requires : goal.index-requires
index-requires c =
    let (k, w, legacy, reader, within) = c.requires in
    let e = as_many (import_at k w) c.args.self.now.places.items (core_imports k w) reader.places in
    omega (arith, e, within)

pub returns : goal.returns
returns c k w legacy reader =
    let e = as_many (import_at k w) c.args.self.now.places.items (core_imports k w) reader.places in
    let (k0, w0, legacy0, reader0, within0) = c.requires in
    let e0 = as_many (import_at k0 w0) c.args.self.now.places.items (core_imports k0 w0) reader0.places in
    let within : c.args.place < length (core_imports k w) = omega (arith, e, e0, within0) in
    let (x, is, there) = are_read (import_at k w) c.args.self.now.places.items (core_imports k w) reader.places c.args.place c.index.result.now within c.index.ensures in
    is ∙ sym there
