-- Types that come with an included world stand for what they stood for, under the names of the world that includes it (WIT, Item: `include`).
use Rattle.std.specs.Prelude.{◌≡◌, ℕ, ◌+◌, false, List, ◌++◌, Some, length, map, slice_get, string_bytes}
use Rattle.wit_arena.specs.Passed.wit_order-Order.{Has}
use Rattle.wit_arena.specs.Passed.wit_types-declared-kind-TypeDefKind-TheVariants as kind
use Rattle.wit_arena.specs.Passed.wit_types-declared-interface-TypeDef.{TypeDef}
use Rattle.wit_arena.specs.Passed.wit_types-declared-interface-TypeOwner.{TypeOwner}
use Rattle.wit_arena.specs.Passed.wit_types-declared-function-Param.{Param}
use Rattle.wit_arena.specs.Passed.wit_types-declared-function-Function.{Function}
use Rattle.wit_arena.specs.Passed.wit_types-declared-world-IncludeName.{IncludeName}
use Rattle.wit_arena.specs.Passed.wit_types-declared-world-World.{World}
use Rattle.wit_arena.specs.Tree.{Name, Owner, Tree, TreeOption, Trees}
use Rattle.wit_arena.specs.Unfold.{Owners, part_tree, part_trees, owner_of, trees, IsWhole}
use Rattle.wit_arena.specs.Standing.{HasTree}
use Rattle.wit_includes.specs.Passed.wit_moves-Moved.{IsMovedFunction}
use Rattle.wit_includes.specs.Passed.wit_reach-Ids.{signature_ids}
use Rattle.wit_includes.specs.Passed.wit_reach-Types.{AreTypesBackward, AreWorldTypes, IsLocalAt, is_local}
use Rattle.wit_includes.specs.Passed.wit_copies-Same.{IsSameFunction}
use Rattle.wit_includes.specs.Passed.wit_copies-Copies.{goes}
use Rattle.wit_includes.specs.Included.{AreIncludedTypes, copies_behind}
use Rattle.wit_copied_trees.specs.Renamed.{IsRenamedTree, IsRenamedPart, AreRenamedTrees}

abbrev pub WholeArenasAreBackward : Type 0
WholeArenasAreBackward = (owners : Owners) (given : Owner → Name → Tree) (a : List TypeDef) → IsWhole owners given a → AreTypesBackward a

-- the types of a graph are whole, and known; those of one world come with it into another, which is another owner's; no type of an interface or of another world is the one's
pub record AreIncludedBehind (names : List IncludeName) (owners : Owners) (given : Owner → Name → Tree) (from into : ℕ) (w v : Owner) (world : World) (types : List TypeDef) (own : List ℕ) (new : List TypeDef) : Type 0 where
  pub whole : IsWhole owners given types
  pub known : (i : ℕ) (d : TypeDef) → slice_get types i ≡ Some d → d.kind ≡ kind.Unknown → ⊥
  pub from_is : slice_get owners.worlds from ≡ Some w
  pub into_is : slice_get owners.worlds into ≡ Some v
  pub apart : (o : TypeOwner) (u : Owner) → is_local from o ≡ false → owner_of owners o ≡ Some u → u ≡ w → ⊥
  pub are_own : AreWorldTypes from types world own
  pub included : AreIncludedTypes names from into types own new

-- each copy stands for what the type stood for, but for names of the world
abbrev pub IncludedTypesStandForTheSame : Type 0
IncludedTypesStandForTheSame =
    (names : List IncludeName) (owners : Owners) (given : Owner → Name → Tree) (from into : ℕ) (w v : Owner) (world : World) (types : List TypeDef) (own : List ℕ) (new : List TypeDef)
    → AreIncludedBehind names owners given from into w v world types own new
    → IsWhole owners given (types ++ new)
    × ((k i : ℕ) (t : Tree) → slice_get own k ≡ Some i → HasTree owners given types i t → (u : Tree) × IsRenamedTree names w v t u × HasTree owners given (types ++ new) (length types + k) u)

-- what a function takes, and gives
pub record IsOfTrees (owners : Owners) (given : Owner → Name → Tree) (a : List TypeDef) (f : Function) (names : List Name) (params : Trees) (result : TreeOption) : Type 0 where
  pub names_are : map (λ (p : Param). string_bytes p.name) f.params.items ≡ names
  pub params_are : part_trees (trees owners given a) (map (λ (p : Param). Some p.ty) f.params.items) ≡ Some params
  pub result_is : part_tree (trees owners given a) f.result ≡ Some result

abbrev pub IncludedFunctionsStandForTheSame : Type 0
IncludedFunctionsStandForTheSame =
    (names : List IncludeName) (owners : Owners) (given : Owner → Name → Tree) (from into : ℕ) (w v : Owner) (world : World) (types : List TypeDef) (own : List ℕ) (new : List TypeDef) (f g h : Function) (xs : List Name) (params : Trees) (result : TreeOption)
    → AreIncludedBehind names owners given from into w v world types own new
    -- the function is of the world: each of its types is one of the world's, or belongs elsewhere
    → ((i : ℕ) → Has (signature_ids f) i → IsLocalAt from types i → Has own i)
    → IsSameFunction f g → IsMovedFunction (goes (copies_behind types own)) g h
    → IsOfTrees owners given types f xs params result
    → (params2 : Trees) × (result2 : TreeOption) × AreRenamedTrees names w v params params2 × IsRenamedPart names w v result result2 × IsOfTrees owners given (types ++ new) h xs params2 result2
