-- What a graph has of what a package asks for (WIT, Packages, Use, Package Names).
use Rattle.std.specs.Prelude.{◌≡◌, ℕ, Bool, true, List, [], Some, String, slice_get, string_bytes}
use Rattle.std.specs.declared.alloc.Global.{Global}
use Rattle.wit_types.specs.declared.interface.Interface.{Interface}
use Rattle.wit_types.specs.declared.«package».Package.{Package}
use Rattle.wit_types.specs.declared.«package».PackageName.{PackageName}
use Rattle.wit_types.specs.declared.«package».UnresolvedPackage.{UnresolvedPackage}
use Rattle.wit_types.specs.contracts.«package».PackageNamePartialEq.TheImpl as name_test
use Rattle.wit_features.specs.Features.{FeatureSet}
use Rattle.wit_moves.specs.Moved.{Places, place_of}
use Rattle.wit_moves.specs.Plan.{OwnerPlaces}
use Rattle.wit_moved_trees.specs.Law.{StandForTheSame}
use Rattle.wit_plans.specs.Plans.{found_of}
use Rattle.wit_finding.specs.Foreign.{AreForeignPlaces}
use Rattle.wit_arena.specs.Tree.{Name, Place, in_interface, in_world, Owner, Tree}
use Rattle.wit_arena.specs.Unfold.{Owners, IsWhole}
use Rattle.wit_arena.specs.Standing.{HasTree}
use Rattle.wit_arena.specs.Meaning.{Has}
use Rattle.wit_graph.specs.Passed.wit_graph_worlds-Names.{IsSameName}
use Rattle.wit_graph.specs.Passed.wit_graph_parts-Own.{own_parts}
use Rattle.wit_graph.specs.Graph.{Graph, nothing}
use Rattle.wit_graph.specs.Push.{IsPushed}
use Rattle.wit_graph.specs.declared.tables.Tables.{Tables}
use Rattle.wit_pushed_trees.specs.Asked.{text_of, AsksByName}

-- ---- packages under their names

-- names that are equal have the same texts and versions
abbrev pub TellsNamesApart : (PackageName → PackageName → Bool) → Type 0
TellsNamesApart eq = (n m : PackageName) → eq n m ≡ true → IsSameName n m

-- `==` is such
abbrev pub EqualNamesAreTheSame : Type 0
EqualNamesAreTheSame = TellsNamesApart (name_test.ghosts).eq

-- each name is that of the package with its id
abbrev pub NamesStand : List Package → List (PackageName × ℕ) → Type 0
NamesStand packages names = (n : PackageName) (i : ℕ) → Has names (n, i) → (q : Package) × (slice_get packages i ≡ Some q) × IsSameName n q.name

abbrev pub NamesOfGraphStand : Graph → Type 0
NamesOfGraphStand g = NamesStand g.tables.packages g.names

-- so it is in a graph without packages, and stays so with each that comes
abbrev pub EmptyNamesStand : Type 0
EmptyNamesStand = NamesOfGraphStand (record { tables = nothing; names = [] })

abbrev pub PushedNamesStand : Type 0
PushedNamesStand = (eq : PackageName → PackageName → Bool) (features : FeatureSet) (old : Graph) (p : UnresolvedPackage) (new : Graph) (id : ℕ) → IsPushed eq features old p new id → NamesOfGraphStand old → NamesOfGraphStand new

-- ---- what is found

-- a package of these has it, in this table, under its name at that place
pub record IsInPackage (table : Package → List (String Global × ℕ)) (place : Name → Place) (packages : List Package) (w : Owner) (j : ℕ) : Type 0 where
  pub «package» : Package
  pub there : Has packages «package»
  pub text : w.package_text ≡ text_of «package».name
  pub name : String Global
  pub listed : Has (table «package») (name, j)
  pub place_is : w.place ≡ place (string_bytes name)

-- the interface with that id is the owner, and the world
abbrev pub IsInterfaceOf : List Package → Owner → ℕ → Type 0
IsInterfaceOf = IsInPackage (λ q. q.interfaces.entries) in_interface

abbrev pub IsWorldOf : List Package → Owner → ℕ → Type 0
IsWorldOf = IsInPackage (λ q. q.worlds.entries) in_world

-- what is asked for, where it is found, is what it is asked for as: by the package's name and its own there
pub record AreFoundByName (packages : List Package) (owners : Owners) (interfaces worlds : Places) : Type 0 where
  pub interfaces_are : (i j : ℕ) → place_of interfaces i ≡ Some j → (w : Owner) × (slice_get owners.interfaces i ≡ Some w) × IsInterfaceOf packages w j
  pub worlds_are : (i j : ℕ) → place_of worlds i ≡ Some j → (w : Owner) × (slice_get owners.worlds i ≡ Some w) × IsWorldOf packages w j

abbrev pub AskedItemsAreFoundByName : Type 0
AskedItemsAreFoundByName =
    (eq : PackageName → PackageName → Bool) (features : FeatureSet) (names : List (PackageName × ℕ)) (packages : List Package) (owners : Owners) (p : UnresolvedPackage) (interfaces worlds : Places)
    → TellsNamesApart eq → NamesStand packages names → AsksByName owners p → AreForeignPlaces eq features names packages p interfaces worlds → AreFoundByName packages owners interfaces worlds

-- ---- types that are asked for

-- what is given for names of interfaces is what stands there under those names
abbrev pub IsGivenBy : (Owner → Name → Tree) → Owners → Tables → Type 0
IsGivenBy given owners t =
    (w : Owner) (j : ℕ) (d : Interface) → IsInterfaceOf t.packages w j → slice_get t.interfaces.all j ≡ Some d → (x : String Global) (k : ℕ) → Has d.types.entries (x, k) → HasTree owners given t.types k (given w (string_bytes x))

-- then what is found of the types that a package asks for is what they stand for in it
abbrev pub AskedTypesStandForTheSame : Type 0
AskedTypesStandForTheSame =
    (given : Owner → Name → Tree) (package_owners graph_owners : Owners) (t : Tables) (foreign : OwnerPlaces) (p : UnresolvedPackage)
    → IsWhole package_owners given p.types → AsksByName package_owners p → AreFoundByName t.packages package_owners foreign.interfaces foreign.worlds → IsGivenBy given graph_owners t
    → StandForTheSame given (found_of t.interfaces.all foreign (own_parts p)) package_owners p.types graph_owners t.types
