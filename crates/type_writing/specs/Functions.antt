-- Types of functions as trees, and what stands for them (WIT, Item: `func`; Component Model, Explainer, Type Definitions).
use Rattle.std.specs.Prelude.{◌≡◌, ℕ, List, ◌∷◌, map, Option, Some, string_bytes}
use Rattle.type_meaning.specs.Passed.component_value_types-Types.{DefinedTypeValue}
use Rattle.wit_types.specs.declared.kind.«Type».{«Type» as Ref}
use Rattle.wit_types.specs.declared.function.Param.{Param}
use Rattle.wit_types.specs.declared.interface.TypeDef.{TypeDef}
use Rattle.type_meaning.specs.Tree.{Parts, of, function_kind}
use Rattle.type_meaning.specs.Syntax.{labelled, syntax_of}
use Rattle.type_meaning.specs.Items.{Item, type_at, is_function}
use Rattle.type_meaning.specs.Words.{Label}
use Rattle.type_writing.specs.Unfolding.{OwnName, WitTree, FormOf, PartsUnfold}
use Rattle.type_writing.specs.Writing.{written, PartsStand}

-- the result comes first, and then the parameters
abbrev pub function_form : List Param → Option Ref → FormOf
function_form params result = record { form = labelled function_kind (map (λ p. string_bytes p.name) params); parts = result ∷ map (λ p. Some p.ty) params }

-- the tree of a function's type
pub record FunctionUnfolds (types : List TypeDef) (params : List Param) (result : Option Ref) (t : WitTree) : Type 0 where
  pub parts : Parts OwnName OwnName
  pub unfolds : PartsUnfold types (function_form params result).parts parts
  pub is : t ≡ of (function_form params result).form parts

-- a type that is defined is a function's, over parts that stand for its parts
pub record IsFunctionOf (label : OwnName → Label) (types : List TypeDef) (space : List Item) (params : List Param) (result : Option Ref) (d : DefinedTypeValue) : Type 0 where
  pub same : (syntax_of d).form ≡ (function_form params result).form
  pub parts : PartsStand label types space (function_form params result).parts (syntax_of d).parts

-- an index stands for the type of a function
abbrev pub FunctionStands : (OwnName → Label) → List TypeDef → List Item → List Param → Option Ref → ℕ → Type 0
FunctionStands label types space params result i = (t : WitTree) × FunctionUnfolds types params result t × (type_at is_function space i ≡ Some (written label t))
