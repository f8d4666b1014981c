-- No defined type begins as a resource type or the type of an instance does.
use Rattle.std.proofs.Common.{◌≡◌, false, refl}
use Rattle.std.specs.Prelude.{◌==◌}
use Rattle.component_definitions.specs.Passed.component_value_types-declared-values-PrimitiveValueType.{PrimitiveValueType}
use Rattle.component_definitions.specs.Passed.component_value_types-declared-values-PrimitiveValueType-TheVariants as primitives
use Rattle.component_definitions.specs.Passed.component_value_types-Values.{primitive_byte}
use Rattle.component_definitions.specs.Passed.component_value_types-Types.{DefinedTypeValue, which, primitive, record_of, variant_of, list_of, fixed_length_list_of, tuple_of, flags_of, enum_of, option_of, result_of, own, borrow, function}

primitive_is_not : (p : PrimitiveValueType) → ((primitive_byte p == 0x3f) ≡ false) × ((primitive_byte p == 0x42) ≡ false)
primitive_is_not primitives.Bool = (refl, refl)
primitive_is_not primitives.S8 = (refl, refl)
primitive_is_not primitives.U8 = (refl, refl)
primitive_is_not primitives.S16 = (refl, refl)
primitive_is_not primitives.U16 = (refl, refl)
primitive_is_not primitives.S32 = (refl, refl)
primitive_is_not primitives.U32 = (refl, refl)
primitive_is_not primitives.S64 = (refl, refl)
primitive_is_not primitives.U64 = (refl, refl)
primitive_is_not primitives.F32 = (refl, refl)
primitive_is_not primitives.F64 = (refl, refl)
primitive_is_not primitives.Char = (refl, refl)
primitive_is_not primitives.String = (refl, refl)

is_not : (t : DefinedTypeValue) → ((which t == 0x3f) ≡ false) × ((which t == 0x42) ≡ false)
is_not (primitive p) = primitive_is_not p
is_not (record_of fields) = (refl, refl)
is_not (variant_of cases) = (refl, refl)
is_not (list_of t) = (refl, refl)
is_not (fixed_length_list_of t n) = (refl, refl)
is_not (tuple_of ts) = (refl, refl)
is_not (flags_of ls) = (refl, refl)
is_not (enum_of ls) = (refl, refl)
is_not (option_of t) = (refl, refl)
is_not (result_of ok err) = (refl, refl)
is_not (own i) = (refl, refl)
is_not (borrow i) = (refl, refl)
is_not (function f) = (refl, refl)

pub is_no_resource : (t : DefinedTypeValue) → (which t == 0x3f) ≡ false
is_no_resource t = (is_not t).0

pub is_no_instance : (t : DefinedTypeValue) → (which t == 0x42) ≡ false
is_no_instance t = (is_not t).1
