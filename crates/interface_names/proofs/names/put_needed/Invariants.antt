use Rattle.std.proofs.Common.{take, map}
use Rattle.wasm_types.specs.Entries.{import_value}
use Rattle.core_links.specs.Names.{names_in}
use Rattle.interface_names.specs.Found.{AreFound, texts_of}
use Rattle.interface_names.proofs.names.put_needed.Given as goal

abbrev pub invariant-loop-index : goal.invariant-loop-index
invariant-loop-index l = AreFound (names_in l.names) (take l.index (map import_value l.imports)) (texts_of l.texts.items)
