-- The component of a module and a world of a graph, and why there is none (Component Model, Build Targets, Explainer, Component
-- Definitions).
use Rattle.std.specs.Prelude.{◌≡◌, ◌⊎◌, ℕ, List, [], true}
use Rattle.distinct_names.specs.Names.{all_new}
use Rattle.encodable_worlds.specs.Passed.component_imports-Functions.{function_names}
use Rattle.core_links.specs.Names.{Names}
use Rattle.link_lines.specs.Line.{LinkValue}
use Rattle.encodable_worlds.specs.Passed.link_table-Cause.{IsTableCause}
use Rattle.encodable_worlds.specs.Passed.link_table-Lines.{AreLines}
use Rattle.encodable_worlds.specs.Passed.link_table-Linking.{Linking, exported_functions}
use Rattle.encodable_worlds.specs.Passed.link_table-Table.{Table, IsTable}
use Rattle.encodable_worlds.specs.Passed.link_table-declared-fault-TableFault.{TableFault}
use Rattle.encodable_worlds.specs.Passed.link_table-declared-fault-TableFault-TheVariants.{NotYet, OutOfMemory}
pub use Rattle.interface_names.specs.Names.{HasTwoNames}
use Rattle.encodable_worlds.specs.Passed.linked_imports-Imports.{ArePartsApart}
pub use Rattle.encodable_worlds.specs.Passed.component_encoding-Component.{IsEncoding}
use Rattle.encodable_worlds.specs.Passed.wit_graph-Graph.{AreWhole}
use Rattle.encodable_worlds.specs.Passed.wit_graph-declared-tables-Tables.{Tables}
pub use Rattle.encodable_worlds.specs.Passed.linked_worlds-Linked.{AreNamesOf}
use Rattle.encodable_worlds.specs.Passed.linked_worlds-Named.{AreItemsNamed}
use Rattle.linked_components.specs.declared.fault.ComponentFault.{ComponentFault}
use Rattle.linked_components.specs.declared.fault.ComponentFault.TheVariants as faults

-- ---- what is asked

-- the world is one of a graph
abbrev pub IsOfGraph : Names → Type 0
IsOfGraph n = (t : Tables) × (world : ℕ) × AreWhole t × AreNamesOf t world n

-- with that id, and names that have to tell things apart do
pub record IsOfNamedGraph (l : Linking) (world : ℕ) : Type 0 where
  pub tables : Tables
  pub whole : AreWhole tables
  pub named : AreItemsNamed tables
  pub names_are : AreNamesOf tables world l.names
  pub parts : ArePartsApart l
  pub exported : all_new [] (function_names (exported_functions l.names.world)) ≡ true

-- ---- what is answered

-- these are the lines of the link table, in order
abbrev pub HasLines : Linking → List LinkValue → Type 0
HasLines l lines = (t : Table) × IsTable l t × AreLines l t lines

-- the bytes are a component that is right for the link table of a module of those bytes
abbrev pub IsComponentOf : Linking → List ℕ → List ℕ → Type 0
IsComponentOf l bytes encoded = (t : Table) × IsTable l t × IsEncoding l bytes t encoded

-- there is no link table; or core imports name functions of one interface under two names, or 32 bits can't say an index, a count or a size
abbrev pub IsComponentCause : Linking → ComponentFault → Type 0
IsComponentCause l (faults.Table fault) = IsTableCause l fault ⊎ ((fault ≡ NotYet) × ((t : Table) × IsTable l t) × HasTwoNames l.names l.main.imports)
IsComponentCause l faults.TooLarge = (t : Table) × IsTable l t

-- where a world of a graph has a link table with a module, no cause holds that one is refused for, want of memory aside
abbrev pub LinkedHaveNoCause : Type 0
LinkedHaveNoCause = (l : Linking) (t : Table) → IsOfGraph l.names → IsTable l t → (fault : TableFault) → IsTableCause l fault → fault ≡ OutOfMemory
