-- Value types (Component Model Binary, Type Definitions).
use Rattle.std.specs.Prelude.{ℕ, ℤ, pos, negsuc, ◌-◌, Result, Ok, Err, Bool, true, nat_le, nat_lt, ◌==◌, if◌then◌else◌}
use Rattle.binary_grammar.specs.declared.fault.Rule.{Rule}
use Rattle.binary_grammar.specs.declared.fault.Rule.TheVariants as rules
use Rattle.binary_grammar.specs.Syntax.{signed_number, judged, measured}
use Rattle.component_value_types.specs.declared.scope.Scope.{Scope}
use Rattle.component_value_types.specs.declared.values.PrimitiveValueType.{PrimitiveValueType}
use Rattle.component_value_types.specs.declared.values.PrimitiveValueType.TheVariants as primitives
use Rattle.component_value_types.specs.declared.values.ValueType.{ValueType}
use Rattle.component_value_types.specs.declared.values.ValueType.TheVariants as values
use Rattle.component_value_types.specs.Scope.{Grammar}

-- The primitive types in the order of their numbers: -1, -2, and so on, each a byte.
unfoldable pub primitive_at : ℕ → Result PrimitiveValueType Rule
primitive_at n =
    if n == 0 then Ok primitives.Bool else
    if n == 1 then Ok primitives.S8 else
    if n == 2 then Ok primitives.U8 else
    if n == 3 then Ok primitives.S16 else
    if n == 4 then Ok primitives.U16 else
    if n == 5 then Ok primitives.S32 else
    if n == 6 then Ok primitives.U32 else
    if n == 7 then Ok primitives.S64 else
    if n == 8 then Ok primitives.U64 else
    if n == 9 then Ok primitives.F32 else
    if n == 10 then Ok primitives.F64 else
    if n == 11 then Ok primitives.Char else
    if n == 12 then Ok primitives.String else Err rules.Tag

abbrev pub primitive_place : PrimitiveValueType → ℕ
primitive_place primitives.Bool = 0
primitive_place primitives.S8 = 1
primitive_place primitives.U8 = 2
primitive_place primitives.S16 = 3
primitive_place primitives.U16 = 4
primitive_place primitives.S32 = 5
primitive_place primitives.U32 = 6
primitive_place primitives.S64 = 7
primitive_place primitives.U64 = 8
primitive_place primitives.F32 = 9
primitive_place primitives.F64 = 10
primitive_place primitives.Char = 11
primitive_place primitives.String = 12

-- the primitive type that a byte stands for, `7f` down to `73`
abbrev pub primitive_of : ℕ → Result PrimitiveValueType Rule
primitive_of b = if nat_le b 127 then primitive_at (127 - b) else Err rules.Tag

abbrev pub primitive_byte : PrimitiveValueType → ℕ
primitive_byte p = 127 - primitive_place p

-- ---- a primitive type, or the index of a type: one number, below zero for the first

abbrev pub primitive_type : Result PrimitiveValueType Rule → Result ValueType Rule
primitive_type (Ok p) = Ok (values.Primitive p)
primitive_type (Err rule) = Err rule

abbrev pub value_type_of : Scope → ℤ → Result ValueType Rule
value_type_of there (pos n) = if nat_lt n there.types then Ok (values.Index n) else Err rules.Index
value_type_of there (negsuc m) = primitive_type (primitive_at m)

abbrev pub value_number : ValueType → ℤ
value_number (values.Primitive p) = negsuc (primitive_place p)
value_number (values.Index n) = pos n

-- a primitive type is one byte
abbrev pub fits_value : ℕ → ValueType → Bool
fits_value size (values.Primitive p) = size == 1
fits_value size (values.Index n) = true

unfoldable pub value_type : Grammar ValueType
value_type = measured rules.Tag fits_value (judged value_type_of value_number (signed_number 33))
