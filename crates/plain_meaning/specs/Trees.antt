-- The trees of plain types: functions over `bool` and the integers (Component Model, Explainer, Type Definitions).
use Rattle.std.specs.Prelude.{List, [], ◌∷◌, map, Option, Some, None}
use Rattle.known_definitions.specs.Known.{primitive_value}
use Rattle.plain_worlds.specs.declared.world.PrimitiveType.{PrimitiveType}
use Rattle.plain_worlds.specs.World.{ParameterValue, FunctionTypeValue}
use Rattle.type_meaning.specs.Tree.{function_kind, Parts, of, none, gap, part}
use Rattle.type_meaning.specs.Words.{Label, Resource, BinaryTree}
use Rattle.type_meaning.specs.Syntax.{primitive_kind, plain, labelled}

-- a primitive type is a form with no parts
abbrev pub primitive_tree : PrimitiveType → BinaryTree
primitive_tree p = of (plain (primitive_kind (primitive_value p))) none

-- the types of parameters, in their order
abbrev pub parameter_parts : List ParameterValue → Parts Label Resource
parameter_parts [] = none
parameter_parts (p ∷ ps) = part (primitive_tree p.ty) (parameter_parts ps)

-- the result comes first, a gap where there is none
abbrev pub with_result : Option PrimitiveType → Parts Label Resource → Parts Label Resource
with_result None ps = gap ps
with_result (Some p) ps = part (primitive_tree p) ps

-- the tree of a function's type: its labels are the names of parameters
abbrev pub function_tree : FunctionTypeValue → BinaryTree
function_tree t = of (labelled function_kind (map (λ p. p.name) t.params)) (with_result t.result (parameter_parts t.params))
