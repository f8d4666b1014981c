-- What is linked, and its places, as values.
use Rattle.wit_component.specs.declared.linking.Linking.{Linking as Linked}
use Rattle.wit_component.specs.declared.table.Table.{Table}
use Rattle.wasm_format.specs.Module.{module_value}
use Rattle.plain_worlds.specs.World.{world_meaning}
use Rattle.wit_component.specs.Linking.{Linking, main_of}
use Rattle.wit_component.specs.Places.{Places}

abbrev pub linking : Linked → Linking
linking l = record { world = world_meaning l.world.now; main = main_of l.bytes.now (module_value l.main); rejects_legacy = l.rejects_legacy }

abbrev pub places : Table → Places
places t = record { legacy = t.legacy; standard = t.standard; imports = t.imports.items; exports = t.exports.items }
