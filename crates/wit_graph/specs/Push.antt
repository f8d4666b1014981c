-- A package that comes to a graph (WIT, Packages, Use, Feature Gates; Component Model, WIT, Worlds).
use Rattle.std.specs.Prelude.{◌≡◌, ℕ, Bool, true, false, List, [], ◌∷◌, ◌++◌, String, length, take, is_some}
use Rattle.std.specs.declared.alloc.Global.{Global}
use Rattle.std.specs.Map.{lookup}
use Rattle.indexmap.specs.IndexMap.{insert_entry}
use Rattle.wit_words.specs.declared.source_map.Span.{Span}
use Rattle.wit_order.specs.Order.{Has}
use Rattle.wit_types.specs.declared.docs.Docs.{Docs}
use Rattle.wit_types.specs.declared.interface.Interface.{Interface}
use Rattle.wit_types.specs.declared.interface.TypeDef.{TypeDef}
use Rattle.wit_types.specs.declared.world.World.{World}
use Rattle.wit_types.specs.declared.«package».Package.{Package}
use Rattle.wit_types.specs.declared.«package».PackageName.{PackageName}
use Rattle.wit_types.specs.declared.«package».UnresolvedPackage.{UnresolvedPackage}
use Rattle.wit_features.specs.Features.{FeatureSet}
use Rattle.wit_features.specs.Gates.{of_package, AreOnTime, IsLate}
use Rattle.wit_moves.specs.Moved.{Places}
use Rattle.wit_reach.specs.Holding.{AreListed, HoldTheirTypes}
use Rattle.wit_moves.specs.Plan.{OwnerPlaces}
use Rattle.wit_elaborated.specs.Worlds.{AreKeysOfItems}
use Rattle.wit_finding.specs.Foreign.{AreForeignPlaces, ItemsBreak}
use Rattle.wit_finding.specs.Packages.{PackagesBreak}
use Rattle.wit_plans.specs.Plans.{Parts, standing, IsPlanned, PlanBreaks}
use Rattle.wit_graph_parts.specs.Passed.wit_placed-There.{AreBelow}
use Rattle.wit_graph_parts.specs.Passed.wit_placed-Order.{AreNamelessFree}
use Rattle.wit_graph_parts.specs.Passed.wit_placed-Listed.{AreOwnersBehind}
use Rattle.wit_graph_parts.specs.Passed.wit_placed-Naming.{HaveNamesApart}
use Rattle.wit_graph_parts.specs.Passed.wit_resources-Natures.{natures}
use Rattle.wit_graph_parts.specs.Passed.wit_resources-declared-natures-Nature.{Nature}
use Rattle.wit_plans.specs.declared.plans.Sizes.{Sizes}
use Rattle.wit_graph_parts.specs.Passed.wit_graph_worlds-declared-worlds-WorldFault.{WorldFault}
use Rattle.wit_graph_parts.specs.Passed.wit_graph_worlds-declared-worlds-WorldFault-TheVariants as world
use Rattle.wit_graph_parts.specs.Own.{own_parts}
use Rattle.wit_graph_parts.specs.Interfaces.{Interfaces}
use Rattle.wit_graph_parts.specs.Passed.wit_graph_worlds-Names.{IsSameName}
use Rattle.wit_graph_parts.specs.Parts.{AreTypesAdded, TypesBreak, AreInterfacesAdded, InterfacesBreak, AreWorldsAdded, WorldsBreak, AreWorldsRefused}
use Rattle.wit_graph.specs.Graph.{Graph, Items, items_of, AreItemsWhole, sizes}
use Rattle.wit_graph.specs.declared.tables.Tables.{Tables}
use Rattle.wit_graph.specs.declared.tables.Mark.{Mark}
use Rattle.wit_order.specs.Places.{Rows}
use Rattle.wit_graph_parts.specs.declared.fault.PushFault.{PushFault}
use Rattle.wit_graph_parts.specs.declared.fault.PushFault.TheVariants.{GateVersion, DuplicatePackage, PackageNotFound, ItemNotFound, IncludeClash, ExportConflict, ForeignShape, OutOfMemory}

-- ---- all that it holds

-- a graph that is whole, and what a package holds with the places that this takes in it, behind what it asks for
pub record IsReady (features : FeatureSet) (t : Items) (foreign : OwnerPlaces) (p : Parts) (owners : OwnerPlaces) (places : Places) : Type 0 where
  pub whole : AreItemsWhole t
  pub interfaces_below : AreBelow (length t.interfaces.all) foreign.interfaces
  pub worlds_below : AreBelow (length t.worlds.listed) foreign.worlds
  pub planned : IsPlanned features t.interfaces.all (sizes t) foreign p owners places
  pub nameless : AreNamelessFree p.types
  pub owned : AreOwnersBehind (length foreign.interfaces) p.types
  pub holds : HoldTheirTypes (length foreign.interfaces) (p.unknown ++ p.types) p.interfaces
  pub listed : AreListed (length foreign.interfaces) (p.unknown ++ p.types) p.interfaces
  pub names : HaveNamesApart p.interfaces
  pub keys : (w : World) → Has p.worlds w → AreKeysOfItems w.imports.entries

-- its types, interfaces and worlds that stay are behind those that were there
pub record ArePartsAdded (features : FeatureSet) (owner : ℕ) (owners : OwnerPlaces) (places : Places) (p : Parts) (old new : Items) (interface_names world_names : List (String Global × ℕ)) : Type 0 where
  pub types : List TypeDef
  pub own_types : AreTypesAdded owners places (length p.unknown) p.types old.types types
  pub own_interfaces : AreInterfacesAdded features (standing owners places) owner types p.interfaces old.interfaces new.interfaces interface_names
  pub own_worlds : AreWorldsAdded features (standing owners places) owner new.interfaces p.worlds types new.types old.worlds new.worlds world_names
  pub natures_are : new.natures ≡ natures new.types

-- the package by what it names
pub record IsPackage (name : PackageName) (docs : Docs) (interface_names world_names : List (String Global × ℕ)) (q : Package) : Type 0 where
  pub name_is : q.name ≡ name
  pub docs_are : q.docs ≡ docs
  pub interfaces_are : q.interfaces.entries ≡ interface_names
  pub worlds_are : q.worlds.entries ≡ world_names

-- and the package is there too
pub record IsAdded (features : FeatureSet) (name : PackageName) (docs : Docs) (owners : OwnerPlaces) (places : Places) (p : Parts) (old new : Tables) : Type 0 where
  pub interface_names : List (String Global × ℕ)
  pub world_names : List (String Global × ℕ)
  pub parts : ArePartsAdded features (length old.packages) owners places p (items_of old) (items_of new) interface_names world_names
  pub q : Package
  pub is_package : IsPackage name docs interface_names world_names q
  pub packages_are : new.packages ≡ old.packages ++ q ∷ []

-- what was there is there under its ids, with more behind
pub record HasMore (old new : Tables) : Type 0 where
  pub types : List TypeDef
  pub types_are : new.types ≡ old.types ++ types
  pub known : List Nature
  pub natures_are : new.natures ≡ old.natures ++ known
  pub interfaces : List Interface
  pub interfaces_are : new.interfaces.all ≡ old.interfaces.all ++ interfaces
  pub uses : Rows
  pub uses_are : new.interfaces.uses ≡ old.interfaces.uses ++ uses
  pub closures : List (List ℕ)
  pub closures_are : new.closures ≡ old.closures ++ closures
  pub listed : List World
  pub listed_are : new.worlds.listed ≡ old.worlds.listed ++ listed
  pub elaborated : List World
  pub elaborated_are : new.worlds.elaborated ≡ old.worlds.elaborated ++ elaborated
  pub packages : List Package
  pub packages_are : new.packages ≡ old.packages ++ packages

-- maybe more types, interfaces and worlds, but no package
pub record HaveGrown (old new : Tables) : Type 0 where
  pub more : HasMore old new
  pub same_packages : new.packages ≡ old.packages

-- and each package that was there has its name, with more behind
pub record HasMorePackages (old new : Graph) : Type 0 where
  pub tables : HasMore old.tables new.tables
  pub names : List (PackageName × ℕ)
  pub names_are : new.names ≡ old.names ++ names

-- how much there is
abbrev pub mark_of : Graph → Mark
mark_of g = record { sizes = sizes (items_of g.tables); packages = length g.tables.packages; names = length g.names }

-- the first so many alone
abbrev pub cut : Sizes → Tables → Tables
cut so_many t = record {
  types = take so_many.types t.types;
  natures = take so_many.types t.natures;
  interfaces = record { all = take so_many.interfaces t.interfaces.all; uses = take so_many.interfaces t.interfaces.uses };
  closures = take so_many.interfaces t.closures;
  worlds = record { listed = take so_many.worlds t.worlds.listed; elaborated = take so_many.worlds t.worlds.elaborated };
  packages = t.packages;
}

-- ---- refused

-- something of it turns out to be what it may not be
pub data ShapesBreak (features : FeatureSet) (owner : ℕ) (owners : OwnerPlaces) (places : Places) (p : Parts) (t : Items) (at : Span) : Type 0 where
  of_types : TypesBreak owners places (length p.unknown) p.types t.types at → ShapesBreak features owner owners places p t at
  of_interfaces : (types : List TypeDef) → AreTypesAdded owners places (length p.unknown) p.types t.types types → InterfacesBreak features (standing owners places) owner (natures types) p.interfaces at → ShapesBreak features owner owners places p t at
  of_worlds : (types : List TypeDef) → AreTypesAdded owners places (length p.unknown) p.types t.types types → WorldsBreak features (standing owners places) (natures types) p.worlds at → ShapesBreak features owner owners places p t at

-- its types and interfaces are there, and a world of it can't be
pub record WorldsRefuse (features : FeatureSet) (owner : ℕ) (owners : OwnerPlaces) (places : Places) (p : Parts) (t : Items) (fault : WorldFault) : Type 0 where
  pub types : List TypeDef
  pub interfaces : Interfaces
  pub names : List (String Global × ℕ)
  pub own_types : AreTypesAdded owners places (length p.unknown) p.types t.types types
  pub own_interfaces : AreInterfacesAdded features (standing owners places) owner types p.interfaces t.interfaces interfaces names
  pub refused : AreWorldsRefused features (standing owners places) owner interfaces p.worlds types t.worlds fault

abbrev pub IsPartsCause : FeatureSet → ℕ → OwnerPlaces → Places → Parts → Items → PushFault → Type 0
IsPartsCause features owner owners places p t (GateVersion at) = ⊥
IsPartsCause features owner owners places p t (DuplicatePackage at) = ⊥
IsPartsCause features owner owners places p t (PackageNotFound at) = ⊥
IsPartsCause features owner owners places p t (ItemNotFound at) = WorldsRefuse features owner owners places p t (world.ItemNotFound at)
IsPartsCause features owner owners places p t (IncludeClash at) = WorldsRefuse features owner owners places p t (world.IncludeClash at)
IsPartsCause features owner owners places p t (ExportConflict i at) = WorldsRefuse features owner owners places p t (world.ExportConflict i at)
IsPartsCause features owner owners places p t (ForeignShape at) = ShapesBreak features owner owners places p t at
IsPartsCause features owner owners places p t OutOfMemory = Unit {0}

-- ---- a push

-- its name is there, or a gate of it is late
abbrev pub IsPackageCause : (PackageName → PackageName → Bool) → List (PackageName × ℕ) → UnresolvedPackage → PushFault → Type 0
IsPackageCause eq names p (GateVersion at) = IsLate p.name.version (of_package p) at
IsPackageCause eq names p (DuplicatePackage at) = (is_some (lookup (eq p.name) names) ≡ true) × (at ≡ p.name_span)
IsPackageCause eq names p (PackageNotFound at) = ⊥
IsPackageCause eq names p (ItemNotFound at) = ⊥
IsPackageCause eq names p (IncludeClash at) = ⊥
IsPackageCause eq names p (ExportConflict i at) = ⊥
IsPackageCause eq names p (ForeignShape at) = ⊥
IsPackageCause eq names p OutOfMemory = ⊥

-- a package of that name is there under the next id
pub record IsPut (eq : PackageName → PackageName → Bool) (features : FeatureSet) (name : PackageName) (docs : Docs) (owners : OwnerPlaces) (places : Places) (p : Parts) (old new : Graph) (id : ℕ) : Type 0 where
  pub same : PackageName
  pub is_same : IsSameName name same
  pub added : IsAdded features same docs owners places p old.tables new.tables
  pub id_is : id ≡ length old.tables.packages
  pub names_are : new.names ≡ insert_entry eq old.names name id

module _ (eq : PackageName → PackageName → Bool) (features : FeatureSet) (old : Graph) (p : UnresolvedPackage) where
  -- what it asks for is found, and all of it has its place
  pub record ArePlaces (foreign owners : OwnerPlaces) (places : Places) : Type 0 where
    pub found : AreForeignPlaces eq features old.names old.tables.packages p foreign.interfaces foreign.worlds
    pub planned : IsPlanned features old.tables.interfaces.all (sizes (items_of old.tables)) foreign (own_parts p) owners places

  -- the package is there under the next id, with all of it that stays; it comes with no gates of versions that it hasn't reached
  pub record IsPushed (new : Graph) (id : ℕ) : Type 0 where
    pub fresh : is_some (lookup (eq p.name) old.names) ≡ false
    pub on_time : AreOnTime p.name.version (of_package p)
    pub foreign : OwnerPlaces
    pub owners : OwnerPlaces
    pub places : Places
    pub are_places : ArePlaces foreign owners places
    pub put : IsPut eq features p.name p.docs owners places (own_parts p) old new id

  -- a statement that stays names what isn't there
  pub data ItemsMissing (at : Span) : Type 0 where
    not_found : ItemsBreak eq features old.names old.tables.packages p at → ItemsMissing at
    left_out : (foreign : OwnerPlaces) → AreForeignPlaces eq features old.names old.tables.packages p foreign.interfaces foreign.worlds
        → PlanBreaks features old.tables.interfaces.all (sizes (items_of old.tables)) foreign (own_parts p) at → ItemsMissing at
    not_included : (foreign owners : OwnerPlaces) (places : Places) → ArePlaces foreign owners places
        → WorldsRefuse features (length old.tables.packages) owners places (own_parts p) (items_of old.tables) (world.ItemNotFound at) → ItemsMissing at

  -- all has its place, and a world can't be there
  pub record AreWorldsRefusedBy (fault : WorldFault) : Type 0 where
    pub foreign : OwnerPlaces
    pub owners : OwnerPlaces
    pub places : Places
    pub are_places : ArePlaces foreign owners places
    pub refused : WorldsRefuse features (length old.tables.packages) owners places (own_parts p) (items_of old.tables) fault

  -- or something turns out to be what it may not be
  pub record AreShapesBroken (at : Span) : Type 0 where
    pub foreign : OwnerPlaces
    pub owners : OwnerPlaces
    pub places : Places
    pub are_places : ArePlaces foreign owners places
    pub breaks : ShapesBreak features (length old.tables.packages) owners places (own_parts p) (items_of old.tables) at

  abbrev pub IsPushCause : PushFault → Type 0
  IsPushCause (GateVersion at) = IsLate p.name.version (of_package p) at
  IsPushCause (DuplicatePackage at) = (is_some (lookup (eq p.name) old.names) ≡ true) × (at ≡ p.name_span)
  IsPushCause (PackageNotFound at) = PackagesBreak eq old.names p.foreign_deps.entries p.foreign_dep_spans.items at
  IsPushCause (ItemNotFound at) = ItemsMissing at
  IsPushCause (IncludeClash at) = AreWorldsRefusedBy (world.IncludeClash at)
  IsPushCause (ExportConflict i at) = AreWorldsRefusedBy (world.ExportConflict i at)
  IsPushCause (ForeignShape at) = AreShapesBroken at
  IsPushCause OutOfMemory = Unit {0}
