-- Core types of functions (Component Model, Canonical ABI, Flattening), of the primitive types.
use Rattle.std.specs.Prelude.{List, [], ◌∷◌, map, length, nat_le, if◌then◌else◌, Option, Some, None}
use Rattle.wasm_types.specs.declared.types.ValType.{ValType}
use Rattle.wasm_types.specs.declared.types.ValType.TheVariants.{I32, I64}
use Rattle.wasm_types.specs.Types.{FuncTypeValue}
use Rattle.plain_worlds.specs.declared.world.PrimitiveType.{PrimitiveType}
use Rattle.plain_worlds.specs.declared.world.PrimitiveType.TheVariants as primitives
use Rattle.plain_worlds.specs.World.{ParameterValue, FunctionTypeValue}

-- integers of 64 bits are i64, all else of this shape is i32
abbrev pub flat_value : PrimitiveType → ValType
flat_value primitives.Bool = I32
flat_value primitives.S8 = I32
flat_value primitives.U8 = I32
flat_value primitives.S16 = I32
flat_value primitives.U16 = I32
flat_value primitives.S32 = I32
flat_value primitives.U32 = I32
flat_value primitives.S64 = I64
flat_value primitives.U64 = I64

abbrev pub flat_result : Option PrimitiveType → List ValType
flat_result None = []
flat_result (Some p) = flat_value p ∷ []

-- one core value for each of at most 16 parameters; more of them lie in memory, and their place is given
abbrev pub flat_params : List ParameterValue → List ValType
flat_params ps = if nat_le (length ps) 16 then map (λ p. flat_value p.ty) ps else I32 ∷ []

-- the core type of a function; the result has one core value
abbrev pub flat : FunctionTypeValue → FuncTypeValue
flat t = record { params = flat_params t.params; results = flat_result t.result }
