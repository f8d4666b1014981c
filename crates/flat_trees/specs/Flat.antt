-- Core types of functions by the trees of their types (Component Model, Canonical ABI, Flattening).
use Rattle.std.specs.Prelude.{ℕ, List, [], ◌∷◌, ◌++◌}
use Rattle.wasm_types.specs.declared.types.ValType.{ValType}
use Rattle.wasm_types.specs.declared.types.ValType.TheVariants.{I32, I64, F32, F64}
use Rattle.wasm_types.specs.Types.{FuncTypeValue}
use Rattle.linked_types.specs.Passed.wit_types-declared-mangling-AbiVariant.{AbiVariant}
use Rattle.flat_types.specs.Flat.{join_places, repeated}
use Rattle.flat_types.specs.Signature.{SignatureValue, signature_of}
use Rattle.type_writing.specs.Passed.type_meaning-Tree.{Kind, bool, s8, u8, s16, u16, s32, u32, s64, u64, f32, f64, char, string, error_context, record_kind, variant_kind, enum_kind, flags_kind, tuple_kind, list_kind, fixed_length_list_kind, option_kind, result_kind, own_kind, borrow_kind, future_kind, stream_kind, function_kind, Tree, Parts, named, resource, of, none, gap, part}

-- those of parts one after the other, and in the same places
abbrev pub in_order : List (List ValType) → List ValType
in_order [] = []
in_order (p ∷ ps) = p ++ in_order ps

abbrev pub in_place : List (List ValType) → List ValType
in_place [] = []
in_place (p ∷ ps) = join_places p (in_place ps)

-- of a kind, with parts that have these: where there are cases their number stands in front of what they share, and a list is where it
-- begins and how long it is, if that isn't part of its type; a function is no value
abbrev pub flat_kind : Kind → ℕ → List (List ValType) → List ValType
flat_kind bool n ps = I32 ∷ []
flat_kind s8 n ps = I32 ∷ []
flat_kind u8 n ps = I32 ∷ []
flat_kind s16 n ps = I32 ∷ []
flat_kind u16 n ps = I32 ∷ []
flat_kind s32 n ps = I32 ∷ []
flat_kind u32 n ps = I32 ∷ []
flat_kind s64 n ps = I64 ∷ []
flat_kind u64 n ps = I64 ∷ []
flat_kind f32 n ps = F32 ∷ []
flat_kind f64 n ps = F64 ∷ []
flat_kind char n ps = I32 ∷ []
flat_kind string n ps = I32 ∷ I32 ∷ []
flat_kind error_context n ps = I32 ∷ []
flat_kind record_kind n ps = in_order ps
flat_kind variant_kind n ps = I32 ∷ in_place ps
flat_kind enum_kind n ps = I32 ∷ []
flat_kind flags_kind n ps = I32 ∷ []
flat_kind tuple_kind n ps = in_order ps
flat_kind list_kind n ps = I32 ∷ I32 ∷ []
flat_kind fixed_length_list_kind n ps = repeated n (in_order ps)
flat_kind option_kind n ps = I32 ∷ in_place ps
flat_kind result_kind n ps = I32 ∷ in_place ps
flat_kind own_kind n ps = I32 ∷ []
flat_kind borrow_kind n ps = I32 ∷ []
flat_kind future_kind n ps = I32 ∷ []
flat_kind stream_kind n ps = I32 ∷ []
flat_kind function_kind n ps = []

-- names don't matter, and a resource is no value
abbrev mutual
  pub flat : {N R : Type 0} → Tree N R → List ValType
  flat (named n t) = flat t
  flat (resource r) = []
  flat (of form ps) = flat_kind form.kind form.number (flat_parts ps)

  -- of parts one by one
  pub flat_parts : {N R : Type 0} → Parts N R → List (List ValType)
  flat_parts none = []
  flat_parts (gap ps) = [] ∷ flat_parts ps
  flat_parts (part t ps) = flat t ∷ flat_parts ps

-- ---- functions: the result is the first part, and then come the parameters

abbrev pub signature_by : AbiVariant → List (List ValType) → SignatureValue
signature_by variant [] = signature_of variant [] []
signature_by variant (result ∷ params) = signature_of variant (in_order params) result

abbrev pub signature : {N R : Type 0} → AbiVariant → Tree N R → SignatureValue
signature variant (named n t) = signature variant t
signature variant (resource r) = signature_of variant [] []
signature variant (of form ps) = signature_by variant (flat_parts ps)

abbrev pub core_type : SignatureValue → FuncTypeValue
core_type s = record { params = s.params; results = s.results }
