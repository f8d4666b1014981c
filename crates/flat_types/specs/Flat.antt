-- Core types of values (Component Model, Canonical ABI, Flattening).
use Rattle.std.specs.Prelude.{ℕ, zero, suc, List, [], ◌∷◌, ◌++◌}
use Rattle.wasm_types.specs.declared.types.ValType.{ValType}
use Rattle.wasm_types.specs.declared.types.ValType.TheVariants.{I32, I64, F32, F64}
use Rattle.wit_arena.specs.Tree.{Primitive, bool, u8, u16, u32, u64, s8, s16, s32, s64, f32, f64, char, string, error_context, Tree, TreeOption, Trees, primitive, list_tree, fixed_length_list_tree, option_tree, tuple_tree, result_tree, future_tree, stream_tree, own_tree, borrow_tree, record_tree, flags_tree, enum_tree, variant_tree, resource_leaf, named_tree, no_tree, a_tree, no_trees, trees_and}

-- ---- payloads share their places

-- equal types stay, an i32 and an f32 share an i32, and all else shares an i64
abbrev pub join : ValType → ValType → ValType
join I32 I32 = I32
join I32 F32 = I32
join F32 I32 = I32
join F32 F32 = F32
join F64 F64 = F64
join _ _ = I64

-- place by place
abbrev pub join_places : List ValType → List ValType → List ValType
join_places [] ys = ys
join_places (x ∷ xs) [] = x ∷ xs
join_places (x ∷ xs) (y ∷ ys) = join x y ∷ join_places xs ys

-- so many times
abbrev pub repeated : ℕ → List ValType → List ValType
repeated zero xs = []
repeated (suc n) xs = xs ++ repeated n xs

-- ---- by what a type is

-- a string is where it begins and how long it is; an error context is a handle
abbrev pub flat_primitive : Primitive → List ValType
flat_primitive bool = I32 ∷ []
flat_primitive u8 = I32 ∷ []
flat_primitive u16 = I32 ∷ []
flat_primitive u32 = I32 ∷ []
flat_primitive u64 = I64 ∷ []
flat_primitive s8 = I32 ∷ []
flat_primitive s16 = I32 ∷ []
flat_primitive s32 = I32 ∷ []
flat_primitive s64 = I64 ∷ []
flat_primitive f32 = F32 ∷ []
flat_primitive f64 = F64 ∷ []
flat_primitive char = I32 ∷ []
flat_primitive string = I32 ∷ I32 ∷ []
flat_primitive error_context = I32 ∷ []

-- a list is where it begins and how long it is, handles, flags and enums are one i32, parts stand one after the other, and where there
-- are cases their number stands in front of what they share; a resource is no value
abbrev mutual
  pub flat : Tree → List ValType
  flat (primitive p) = flat_primitive p
  flat (list_tree t) = I32 ∷ I32 ∷ []
  flat (fixed_length_list_tree t n) = repeated n (flat t)
  flat (option_tree t) = I32 ∷ flat t
  flat (tuple_tree ts) = flat_parts ts
  flat (result_tree ok err) = I32 ∷ join_places (flat_option ok) (flat_option err)
  flat (future_tree t) = I32 ∷ []
  flat (stream_tree t) = I32 ∷ []
  flat (own_tree t) = I32 ∷ []
  flat (borrow_tree t) = I32 ∷ []
  flat (record_tree names ts) = flat_parts ts
  flat (flags_tree names) = I32 ∷ []
  flat (enum_tree names) = I32 ∷ []
  flat (variant_tree names ts) = I32 ∷ flat_cases ts
  flat (resource_leaf o x) = []
  flat (named_tree o x t) = flat t

  pub flat_option : TreeOption → List ValType
  flat_option no_tree = []
  flat_option (a_tree t) = flat t

  -- one after the other
  pub flat_parts : Trees → List ValType
  flat_parts no_trees = []
  flat_parts (trees_and t ts) = flat_option t ++ flat_parts ts

  -- in the same places
  pub flat_cases : Trees → List ValType
  flat_cases no_trees = []
  flat_cases (trees_and t ts) = join_places (flat_option t) (flat_cases ts)
