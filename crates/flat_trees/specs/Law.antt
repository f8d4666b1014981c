-- Core types by trees are those that are known of the types of an arena one by one.
use Rattle.std.specs.Prelude.{◌≡◌, List, take, Option}
use Rattle.linked_types.specs.Passed.wit_types-declared-kind-Type.{«Type» as Ref}
use Rattle.linked_types.specs.Passed.wit_types-declared-function-Param.{Param}
use Rattle.linked_types.specs.Passed.wit_types-declared-interface-TypeDef.{TypeDef}
use Rattle.linked_types.specs.Passed.wit_types-declared-mangling-AbiVariant.{AbiVariant}
use Rattle.linked_types.specs.Passed.wit_types-declared-function-Function.{Function}
use Rattle.wit_order.specs.Order.{Has}
use Rattle.linked_types.specs.Passed.wit_reach-Types.{AreTypesBackward, AreTypesThere}
use Rattle.linked_types.specs.Reached.{ids_of, MayBeLinked}
use Rattle.flat_types.specs.Flats.{cap, FlatValue, ref_flat, flats, known_signature, known_required}
use Rattle.type_writing.specs.Passed.type_meaning-Tree.{Tree}
use Rattle.type_writing.specs.Passed.type_meaning-Words.{Label}
use Rattle.type_writing.specs.Unfolding.{OwnName, WitTree, Unfolds}
use Rattle.type_writing.specs.Writing.{written}
use Rattle.type_writing.specs.Functions.{FunctionUnfolds}
use Rattle.flat_trees.specs.Flat.{flat, signature}
use Rattle.flat_trees.specs.Held.{is_string, is_list, holds, required}

-- functions that may be linked, whose types are there and are made of earlier ones, have trees
abbrev pub LinkedFunctionsUnfold : Type 0
LinkedFunctionsUnfold =
    (types : List TypeDef) (fs : List Function) (f : Function) → AreTypesBackward types → AreTypesThere types (ids_of fs) → MayBeLinked types fs → Has fs f → (t : WitTree) × FunctionUnfolds types f.params.items f.result t

-- of a value with the tree, as far as any question looks
abbrev pub flat_value : {N R : Type 0} → Tree N R → FlatValue
flat_value t = record { values = take cap (flat t); holds_string = holds is_string t; holds_list = holds is_list t }

-- types that are used, and functions over them, of types that are made of earlier ones
pub record UnfoldedFunctionsAreFlat : Type 0 where
  pub types : (types : List TypeDef) (r : Ref) (t : WitTree) → AreTypesBackward types → Unfolds types r t → ref_flat (flats types) r ≡ flat_value t
  pub signatures : (types : List TypeDef) (variant : AbiVariant) (ps : List Param) (r : Option Ref) (t : WitTree) → AreTypesBackward types → FunctionUnfolds types ps r t
      → known_signature (flats types) variant ps r ≡ signature variant t
  pub options : (types : List TypeDef) (variant : AbiVariant) (ps : List Param) (r : Option Ref) (t : WitTree) → AreTypesBackward types → FunctionUnfolds types ps r t
      → known_required (flats types) variant ps r ≡ required variant t

-- the tree that is written for a type has other names, and the same core type
abbrev pub WrittenTreesKeepCoreTypes : Type 0
WrittenTreesKeepCoreTypes =
    (label : OwnName → Label) (variant : AbiVariant) (t : WitTree) → (signature variant (written label t) ≡ signature variant t) × (required variant (written label t) ≡ required variant t)
