-- What a package brings to a graph, part by part (WIT, Packages, Feature Gates, Types).
use Rattle.std.specs.Prelude.{◌≡◌, ℕ, ◌⊎◌, List, ◌++◌, String, length}
use Rattle.std.specs.declared.alloc.Global.{Global}
use Rattle.std.specs.declared.result.Result.{Result}
use Rattle.std.specs.declared.result.Result.TheVariants.{Ok, Err}
use Rattle.wit_types.specs.declared.interface.Interface.{Interface}
use Rattle.wit_types.specs.declared.interface.TypeDef.{TypeDef}
use Rattle.wit_types.specs.declared.world.World.{World}
use Rattle.wit_features.specs.Features.{FeatureSet}
use Rattle.wit_moves.specs.Breaks.{Breaks, AnyOf, IsKept}
use Rattle.wit_moves.specs.Moved.{Places}
use Rattle.wit_moves.specs.Plan.{OwnerPlaces, AreMovedDefs}
use Rattle.wit_graph_worlds.specs.Passed.wit_plans-Checks.{Standing}
use Rattle.wit_graph_worlds.specs.Passed.wit_plans-Moves.{AreMovedInterfaces, AreMovedWorlds}
use Rattle.wit_graph_worlds.specs.Passed.wit_plans-declared-moves-MovedWorld.{MovedWorld}
use Rattle.wit_shapes.specs.Passed.wit_resources-Natures.{natures}
use Rattle.wit_shapes.specs.Passed.wit_resources-declared-natures-Nature.{Nature}
use Rattle.wit_shapes.specs.Shapes.{TypeBreaks, FunctionsBreak, SideBreaks}
use Rattle.wit_graph_worlds.specs.Added as worlds
use Rattle.wit_graph_worlds.specs.Worlds.{Worlds, state}
use Rattle.wit_words.specs.declared.source_map.Span.{Span}
use Rattle.wit_graph_worlds.specs.declared.worlds.WorldFault.{WorldFault}
use Rattle.wit_graph_worlds.specs.declared.worlds.WorldFault.TheVariants as world
use Rattle.wit_graph_parts.specs.Interfaces.{Interfaces, AreAdded}
use Rattle.wit_graph_worlds.specs.Names.{AreNames, interface_names, world_names}
use Rattle.wit_graph_parts.specs.declared.fault.PushFault.{PushFault}
use Rattle.wit_graph_parts.specs.declared.fault.PushFault.TheVariants.{GateVersion, DuplicatePackage, PackageNotFound, ItemNotFound, IncludeClash, ExportConflict, ForeignShape, OutOfMemory}

-- a check of shapes, as part of a push
abbrev pub shape_checked : Result (Unit {0}) Span → Result (Unit {0}) PushFault
shape_checked (Ok u) = Ok u
shape_checked (Err at) = Err (ForeignShape at)

-- ---- types

-- types that stay, where they stand, behind those that are there; no handle of them is of what is no resource
pub record AreTypesAdded (owners : OwnerPlaces) (places : Places) (first : ℕ) (own old new : List TypeDef) : Type 0 where
  pub defs : List TypeDef
  pub are_moved : AreMovedDefs owners places first own defs
  pub types_are : new ≡ old ++ defs
  pub shapes : IsKept (AnyOf (TypeBreaks (natures new)) defs)

-- one of them is a handle of what is no resource
pub record TypesBreak (owners : OwnerPlaces) (places : Places) (first : ℕ) (own old : List TypeDef) (at : Span) : Type 0 where
  pub defs : List TypeDef
  pub are_moved : AreMovedDefs owners places first own defs
  pub breaks : AnyOf (TypeBreaks (natures (old ++ defs))) defs at

abbrev pub IsShapeCause : Breaks → PushFault → Type 0
IsShapeCause breaks (GateVersion at) = ⊥
IsShapeCause breaks (DuplicatePackage at) = ⊥
IsShapeCause breaks (PackageNotFound at) = ⊥
IsShapeCause breaks (ItemNotFound at) = ⊥
IsShapeCause breaks (IncludeClash at) = ⊥
IsShapeCause breaks (ExportConflict i at) = ⊥
IsShapeCause breaks (ForeignShape at) = breaks at
IsShapeCause breaks OutOfMemory = Unit {0}

-- ---- interfaces

abbrev pub InterfaceBreaks : List Nature → Interface → Breaks
InterfaceBreaks ns d = FunctionsBreak ns d.functions.entries

-- interfaces that stay, where they stand, behind those that are there, with their names; no result of a function holds what is lent
pub record AreInterfacesAdded (features : FeatureSet) (s : Standing) (owner : ℕ) (types : List TypeDef) (own : List Interface) (old new : Interfaces) (names : List (String Global × ℕ)) : Type 0 where
  pub moved : List Interface
  pub are_moved : AreMovedInterfaces features s owner own moved
  pub shapes : IsKept (AnyOf (InterfaceBreaks (natures types)) moved)
  pub added : AreAdded types moved old new
  pub named : AreNames (interface_names (length old.all) moved) names

pub record InterfacesBreak (features : FeatureSet) (s : Standing) (owner : ℕ) (ns : List Nature) (own : List Interface) (at : Span) : Type 0 where
  pub moved : List Interface
  pub are_moved : AreMovedInterfaces features s owner own moved
  pub breaks : AnyOf (InterfaceBreaks ns) moved at

-- ---- worlds

abbrev pub WorldBreaks : List Nature → MovedWorld → Breaks
WorldBreaks ns m at = SideBreaks ns m.imports.items at ⊎ SideBreaks ns m.exports.items at

-- worlds that stay, with what they include and import in the end, behind those that are there, with their names; no result of a
-- function of theirs holds what is lent
pub record AreWorldsAdded (features : FeatureSet) (s : Standing) (owner : ℕ) (interfaces : Interfaces) (own : List World) (old : List TypeDef) (new : List TypeDef) (old_worlds new_worlds : Worlds) (names : List (String Global × ℕ)) : Type 0 where
  pub moved : List MovedWorld
  pub are_moved : AreMovedWorlds features s own moved
  pub shapes : IsKept (AnyOf (WorldBreaks (natures old)) moved)
  pub added : worlds.AreAdded interfaces.all interfaces.uses owner moved (state old old_worlds) (state new new_worlds)
  pub named : AreNames (world_names (length old_worlds.listed) moved) names

pub record WorldsBreak (features : FeatureSet) (s : Standing) (ns : List Nature) (own : List World) (at : Span) : Type 0 where
  pub moved : List MovedWorld
  pub are_moved : AreMovedWorlds features s own moved
  pub breaks : AnyOf (WorldBreaks ns) moved at

-- one of them can't be put behind the others
abbrev pub AreWorldsRefused : FeatureSet → Standing → ℕ → Interfaces → List World → List TypeDef → Worlds → WorldFault → Type 0
AreWorldsRefused features s owner interfaces own types old fault =
    (moved : List MovedWorld) × AreMovedWorlds features s own moved × worlds.AreAddCause interfaces.all interfaces.uses owner moved (state types old) fault

abbrev pub IsWorldsCause : FeatureSet → Standing → ℕ → Interfaces → List World → List TypeDef → Worlds → PushFault → Type 0
IsWorldsCause features s owner interfaces own types old (GateVersion at) = ⊥
IsWorldsCause features s owner interfaces own types old (DuplicatePackage at) = ⊥
IsWorldsCause features s owner interfaces own types old (PackageNotFound at) = ⊥
IsWorldsCause features s owner interfaces own types old (ItemNotFound at) = AreWorldsRefused features s owner interfaces own types old (world.ItemNotFound at)
IsWorldsCause features s owner interfaces own types old (IncludeClash at) = AreWorldsRefused features s owner interfaces own types old (world.IncludeClash at)
IsWorldsCause features s owner interfaces own types old (ExportConflict i at) = AreWorldsRefused features s owner interfaces own types old (world.ExportConflict i at)
IsWorldsCause features s owner interfaces own types old (ForeignShape at) = WorldsBreak features s (natures types) own at
IsWorldsCause features s owner interfaces own types old OutOfMemory = Unit {0}
