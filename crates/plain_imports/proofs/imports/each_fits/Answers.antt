use Rattle.std.proofs.Common.{map}
use Rattle.wasm_types.specs.Entries.{import_value}
use Rattle.wit_core_names.specs.Texts.{known}
use Rattle.plain_imports.specs.Imports.{IsBeyond}
use Rattle.plain_imports.proofs.Beyond.{some_of, any_here, some_later, none_left}
use Rattle.plain_imports.proofs.imports.each_fits.Goals as goal

pub returns-then-not-fits-clause-no : goal.returns-then-not-fits-clause-no
returns-then-not-fits-clause-no c = λ _. any_here import_value (IsBeyond (known c.args.tables.now) c.args.world.now c.args.names.now) c.args.imports.now c.loop-import.import-index _ c.loop-import-test.true (c.fits.ensures.no c.if-not-fits.true)

pub loop-import-preserved : goal.loop-import-preserved
loop-import-preserved c = λ s. some_later import_value (IsBeyond (known c.args.tables.now) c.args.world.now c.args.names.now) c.args.imports.now c.loop-import.import-index _ c.loop-import-test.true (c.fits.ensures.yes c.if-not-fits.false) (c.loop-import.invariant s)

pub returns-clause-yes : goal.returns-clause-yes
returns-clause-yes c = λ _ any.
    none_left import_value (IsBeyond (known c.args.tables.now) c.args.world.now c.args.names.now) c.args.imports.now c.loop-import.import-index c.loop-import-test.false
    (c.loop-import.invariant (some_of (IsBeyond (known c.args.tables.now) c.args.world.now c.args.names.now) (map import_value c.args.imports.now) any))
