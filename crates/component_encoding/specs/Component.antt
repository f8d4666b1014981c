-- What a world has to list, so that the component of a link table imports nothing else (Component Model, Build Targets).
use Rattle.std.specs.Prelude.{◌≡◌, ℕ, List, [], true}
use Rattle.distinct_names.specs.Names.{all_new}
use Rattle.wit_types.specs.declared.function.Function.{Function}
use Rattle.linked_imports.specs.Passed.link_table-Linking.{Linking}
use Rattle.component_entries.specs.Entries.{EntryValue}
use Rattle.component_sections.specs.Component.{DefinitionValue, IsComponent}
use Rattle.linked_imports.specs.Passed.component_meaning-Spaces.{meaning}
use Rattle.linked_imports.specs.Passed.link_table-Table.{Table}
use Rattle.linked_imports.specs.Passed.right_components-Main.{main_of}
use Rattle.linked_imports.specs.Passed.right_components-Right.{IsRightFor}
use Rattle.linked_imports.specs.Passed.type_sinks-Placing.{ArePlaced as EntriesArePlaced}
use Rattle.linked_imports.specs.Imports.{AreNeeded, AreListed, AreNamed}
use Rattle.linked_imports.specs.Passed.component_imports-Functions.{function_names}
use Rattle.component_encoding.specs.Placing.{ArePlaced}

-- items are known by their names, and whatever the table needs, the world lists what that is made of
pub record AreNeededListed (l : Linking) (world : ℕ) : Type 0 where
  pub named : AreNamed l.names
  pub listed : (own : List Function) (linked : List (List Function)) → AreNeeded l own linked → AreListed l world own linked

-- all that is written may stand where it does, if what is imported may, and the functions that are exported differ in their names
abbrev pub ArePlacedBehind : List EntryValue → List Function → List DefinitionValue → Type 0
ArePlacedBehind es fs ds = EntriesArePlaced es → all_new [] (function_names fs) ≡ true → ArePlaced ds

-- the bytes are those of definitions that stand for what is right for the link table
pub record IsEncoding (l : Linking) (bytes : List ℕ) (t : Table) (encoded : List ℕ) : Type 0 where
  pub definitions : List DefinitionValue
  pub are : IsComponent encoded definitions
  pub right : IsRightFor l bytes t (meaning (main_of bytes l.main) definitions)
