use Rattle.std.proofs.Common.{true, Some, sym, ap, ◌∙◌}
use Rattle.wasm_types.specs.Entries.{import_value}
use Rattle.wit_core_names.specs.Items.{import_of}
use Rattle.wit_core_names.specs.Texts.{known}
use Rattle.plain_imports.proofs.Beyond.{stands_within, nothing_fits, one_fits, other_is_beyond, two_are_beyond}
use Rattle.plain_imports.proofs.imports.fits.Goals as goal

pub item-requires-clause-place : goal.item-requires-clause-place
item-requires-clause-place c =
    let k = known c.args.tables.now in
    let w = c.args.world.now in
    let one = c.in-Some-One.is ∙ ap Some c.in-Some-One.field-0-is in
    stands_within k w c.args.names.now (import_value c.args.«import».now) c.in-Some-One.place ((c.read.ensures k w true c.requires).one c.in-Some-One.place one).0

pub returns-in-None-clause-yes : goal.returns-in-None-clause-yes
returns-in-None-clause-yes c = λ _.
    let k = known c.args.tables.now in
    let w = c.args.world.now in
    nothing_fits k w c.args.names.now (import_value c.args.«import».now) c.read.result (c.read.ensures k w true c.requires) c.in-None.is

pub returns-in-Some-One-clause-yes : goal.returns-in-Some-One-clause-yes
returns-in-Some-One-clause-yes c = λ own.
    let k = known c.args.tables.now in
    let w = c.args.world.now in
    let one = c.in-Some-One.is ∙ ap Some c.in-Some-One.field-0-is in
    one_fits k w c.args.names.now (import_value c.args.«import».now) c.read.result c.in-Some-One.place (import_of c.item.result) (c.read.ensures k w true c.requires) one c.item.ensures (sym c.is_own.ensures ∙ own)

pub returns-in-Some-One-clause-no : goal.returns-in-Some-One-clause-no
returns-in-Some-One-clause-no c = λ other.
    let k = known c.args.tables.now in
    let w = c.args.world.now in
    let one = c.in-Some-One.is ∙ ap Some c.in-Some-One.field-0-is in
    other_is_beyond k w c.args.names.now (import_value c.args.«import».now) c.read.result c.in-Some-One.place (import_of c.item.result) (c.read.ensures k w true c.requires) one c.item.ensures (sym c.is_own.ensures ∙ other)

pub returns-in-Some-Ambiguous-clause-no : goal.returns-in-Some-Ambiguous-clause-no
returns-in-Some-Ambiguous-clause-no c = λ _.
    let k = known c.args.tables.now in
    let w = c.args.world.now in
    two_are_beyond k w c.args.names.now (import_value c.args.«import».now) c.read.result (c.read.ensures k w true c.requires) (c.in-Some-Ambiguous.is ∙ ap Some c.in-Some-Ambiguous.field-0-is)
