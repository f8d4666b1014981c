-- Types and functions that are moved into a graph of packages stand there for what they stood for (WIT, Types, Items, Packages).
use Rattle.std.specs.Prelude.{◌≡◌, ℕ, true, List, ◌++◌, Some, String, length, map, string_bytes}
use Rattle.std.specs.declared.alloc.Global.{Global}
use Rattle.wit_reach.specs.Passed.wit_types-declared-interface-TypeDef.{TypeDef}
use Rattle.wit_reach.specs.Passed.wit_types-declared-interface-TypeOwner.{TypeOwner}
use Rattle.wit_reach.specs.Passed.wit_types-declared-function-Param.{Param}
use Rattle.wit_reach.specs.Passed.wit_types-declared-function-Function.{Function}
use Rattle.wit_moves.specs.Passed.wit_features-Features.{FeatureSet}
use Rattle.wit_moves.specs.Moved.{Places, place_of, to, is_signature_placed, IsMovedFunction}
use Rattle.wit_moves.specs.Plan.{OwnerPlaces, is_owner_placed, moved_owner, AreTypesPlaced, AreMovedDefs}
use Rattle.wit_moves.specs.Interfaces.{AreMovedNames}
use Rattle.wit_arena.specs.Meaning.{Has}
use Rattle.wit_arena.specs.Tree.{Name, Owner, Tree, TreeOption, Trees}
use Rattle.wit_arena.specs.Unfold.{Owners, part_tree, part_trees, owner_of, trees, IsWhole}
use Rattle.wit_arena.specs.Standing.{HasTree}

-- what has a place in the graph stands there for what it stands for in the package
abbrev pub StandForTheSame : (Owner → Name → Tree) → Places → Owners → List TypeDef → Owners → List TypeDef → Type 0
StandForTheSame given places package_owners a graph_owners b = (i j : ℕ) (t : Tree) → place_of places i ≡ Some j → HasTree package_owners given a i t → HasTree graph_owners given b j t

-- the types of a package, those of other packages first, are moved behind those of a graph: these have those places, and the others have theirs already
pub record AreMovedBehind (given : Owner → Name → Tree) (package_owners graph_owners : Owners) (features : FeatureSet) (owners : OwnerPlaces) (others places : Places) (foreign own graph moved : List TypeDef) : Type 0 where
  pub package_whole : IsWhole package_owners given (foreign ++ own)
  pub graph_whole : IsWhole graph_owners given graph
  pub so_many : length others ≡ length foreign
  pub others_stand : StandForTheSame given others package_owners (foreign ++ own) graph_owners graph
  pub owners_are : (o : TypeOwner) → is_owner_placed owners o ≡ true → owner_of graph_owners (moved_owner owners o) ≡ owner_of package_owners o
  pub placed : AreTypesPlaced features owners others (length graph) own places
  pub are_moved : AreMovedDefs owners places (length foreign) own moved

abbrev pub MovedTypesStandForTheSame : Type 0
MovedTypesStandForTheSame =
    (given : Owner → Name → Tree) (package_owners graph_owners : Owners) (features : FeatureSet) (owners : OwnerPlaces) (others places : Places) (foreign own graph moved : List TypeDef)
    → AreMovedBehind given package_owners graph_owners features owners others places foreign own graph moved
    → IsWhole graph_owners given (graph ++ moved) × StandForTheSame given places package_owners (foreign ++ own) graph_owners (graph ++ moved)

-- each name there was one, and stands for what it stood for
abbrev pub MovedNamesStandForTheSame : Type 0
MovedNamesStandForTheSame =
    (given : Owner → Name → Tree) (places : Places) (package_owners graph_owners : Owners) (a b : List TypeDef) (old new : List (String Global × ℕ))
    → StandForTheSame given places package_owners a graph_owners b → AreMovedNames places old new
    → (x : String Global) (j : ℕ) → Has new (x, j) → (i : ℕ) × Has old (x, i) × ((t : Tree) → HasTree package_owners given a i t → HasTree graph_owners given b j t)

-- a function takes, under those names, and gives these in an arena
pub record IsOfTrees (owners : Owners) (given : Owner → Name → Tree) (a : List TypeDef) (f : Function) (names : List Name) (params : Trees) (result : TreeOption) : Type 0 where
  pub names_are : map (λ (p : Param). string_bytes p.name) f.params.items ≡ names
  pub params_are : part_trees (trees owners given a) (map (λ (p : Param). Some p.ty) f.params.items) ≡ Some params
  pub result_is : part_tree (trees owners given a) f.result ≡ Some result

abbrev pub MovedFunctionsStandForTheSame : Type 0
MovedFunctionsStandForTheSame =
    (given : Owner → Name → Tree) (places : Places) (package_owners graph_owners : Owners) (a b : List TypeDef) (f g : Function) (names : List Name) (params : Trees) (result : TreeOption)
    → StandForTheSame given places package_owners a graph_owners b → IsMovedFunction (to places) f g → is_signature_placed places f.params.items f.result ≡ true
    → IsOfTrees package_owners given a f names params result → IsOfTrees graph_owners given b g names params result
