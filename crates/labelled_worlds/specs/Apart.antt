-- Names within what is linked of a world of a graph differ, and so do those of the functions that it exports (WIT, Items, Types, Item: `world`).
use Rattle.std.specs.Prelude.{◌≡◌, ℕ, [], true}
use Rattle.distinct_names.specs.Names.{all_new}
use Rattle.linked_worlds.specs.Passed.wit_graph-declared-tables-Tables.{Tables}
use Rattle.wit_labelled_graphs.specs.Labelled.{IsLabelled}
use Rattle.wit_labelled_graphs.specs.Named.{AreWorldsNamed}
use Rattle.linked_imports.specs.Passed.component_imports-Functions.{function_names}
use Rattle.linked_imports.specs.Passed.link_table-Linking.{Linking, exported_functions}
use Rattle.linked_imports.specs.Imports.{ArePartsApart}
use Rattle.linked_worlds.specs.Linked.{AreNamesOf}

-- labels of types differ, and parameters of functions that are needed or exported
abbrev pub WorldsHavePartsApart : Type 0
WorldsHavePartsApart = (t : Tables) (i : ℕ) (l : Linking) → IsLabelled t → AreNamesOf t i l.names → ArePartsApart l

abbrev pub ExportedFunctionsAreApart : Type 0
ExportedFunctionsAreApart = (t : Tables) (i : ℕ) (l : Linking) → AreWorldsNamed t → AreNamesOf t i l.names → all_new [] (function_names (exported_functions l.names.world)) ≡ true
