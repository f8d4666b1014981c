-- Core types of functions, and what functions ask for, by the trees of their types (Component Model, Canonical ABI, Flattening, canon lift
-- and canon lower).
use Rattle.std.specs.Prelude.{◌≡◌, List, Option, Some}
use Rattle.wasm_types.specs.Types.{FuncTypeValue}
use Rattle.wit_order.specs.Order.{Has}
use Rattle.wit_types.specs.declared.function.Function.{Function}
use Rattle.wit_types.specs.declared.interface.TypeDef.{TypeDef}
use Rattle.wit_types.specs.declared.mangling.AbiVariant.{AbiVariant}
use Rattle.flat_trees.specs.Passed.type_writing-Unfolding.{WitTree}
use Rattle.flat_trees.specs.Passed.type_writing-Functions.{FunctionUnfolds}
use Rattle.canonical_options.specs.Passed.flat_types-Signature.{RequiredValue}
use Rattle.flat_trees.specs.Flat.{signature, core_type}
use Rattle.flat_trees.specs.Held.{required}

abbrev pub HasTree : List TypeDef → Function → WitTree → Type 0
HasTree types f t = FunctionUnfolds types f.params.items f.result t

abbrev pub HaveTrees : List TypeDef → List Function → Type 0
HaveTrees types fs = (f : Function) → Has fs f → (t : WitTree) × HasTree types f t

-- this is its core type, as an import or as an export
pub record HasCoreType (types : List TypeDef) (variant : AbiVariant) (f : Function) (ty : FuncTypeValue) : Type 0 where
  pub tree : WitTree
  pub unfolds : HasTree types f tree
  pub is : ty ≡ core_type (signature variant tree)

-- it asks for this, so that its values can be passed
pub record Requires (types : List TypeDef) (variant : AbiVariant) (f : Function) (r : RequiredValue) : Type 0 where
  pub tree : WitTree
  pub unfolds : HasTree types f tree
  pub is : r ≡ required variant tree

-- what is found has the core type of the function
abbrev pub IsOfType : List TypeDef → AbiVariant → Function → Option FuncTypeValue → Type 0
IsOfType types variant f found = (ty : FuncTypeValue) × HasCoreType types variant f ty × (found ≡ Some ty)

-- and so it hasn't
abbrev pub IsMistyped : List TypeDef → AbiVariant → Function → Option FuncTypeValue → Type 0
IsMistyped types variant f found = (ty : FuncTypeValue) × HasCoreType types variant f ty × (found ≡ Some ty → ⊥)
