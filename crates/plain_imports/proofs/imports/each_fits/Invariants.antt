use Rattle.std.proofs.Common.{map, drop}
use Rattle.wasm_types.specs.Entries.{import_value}
use Rattle.wit_core_names.specs.Texts.{known}
use Rattle.plain_imports.specs.Imports.{IsBeyond}
use Rattle.plain_imports.proofs.Beyond.{SomeOf}
use Rattle.plain_imports.proofs.imports.each_fits.Given as goal

abbrev pub invariant-loop-import : goal.invariant-loop-import
invariant-loop-import l =
    SomeOf (IsBeyond (known l.tables) l.world l.names) (map import_value l.imports)
    → SomeOf (IsBeyond (known l.tables) l.world l.names) (map import_value (drop l.import-index l.imports))
