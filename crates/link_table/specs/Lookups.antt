-- What is looked up in a module and in the types of a world again and again.
use Rattle.std.specs.Prelude.{◌≡◌, map}
use Rattle.wasm_types.specs.Entries.{export_value}
use Rattle.wit_names.specs.Names.{ArePackagesKnown}
use Rattle.wit_reach.specs.Types.{AreTypesBackward}
use Rattle.canonical_options.specs.Passed.flat_types-Flats.{flats}
use Rattle.core_links.specs.Names.{names_in}
use Rattle.core_links.specs.View.{AreNamesOf}
use Rattle.link_table.specs.declared.lookup.Lookup.{Lookup}

-- it has the core exports by their names, and the core types of the types
pub record IsLookup (l : Lookup) : Type 0 where
  pub packages : ArePackagesKnown l.linking.names.tables.packages.now l.linking.names.tables.interfaces.now
  pub backward : AreTypesBackward l.linking.names.tables.types.now
  pub names_are : AreNamesOf (names_in l.linking.names) (map export_value l.linking.main.now.exports.items) l.exports
  pub flat_are : l.flat ≡ flats l.linking.names.tables.types.now
