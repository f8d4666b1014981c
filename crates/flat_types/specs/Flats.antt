-- Core types of the types of an arena one by one, each by those before it, as far as any question looks.
use Rattle.std.specs.Prelude.{◌≡◌, ℕ, min, List, [], ◌∷◌, ◌++◌, take, map, get_or, slice_get, Option, Some, None, Bool, true, false}
use Rattle.std.specs.List.{flat_map, list_any}
use Rattle.wasm_types.specs.declared.types.ValType.{ValType}
use Rattle.wasm_types.specs.declared.types.ValType.TheVariants.{I32, I64, F32, F64}
use Rattle.wit_types.specs.declared.kind.«Type».{«Type» as Ref}
use Rattle.wit_types.specs.declared.kind.«Type».TheVariants as ref
use Rattle.wit_types.specs.declared.kind.TypeDefKind.{TypeDefKind}
use Rattle.wit_types.specs.declared.kind.TypeDefKind.TheVariants as kind
use Rattle.wit_types.specs.declared.interface.TypeDef.{TypeDef}
use Rattle.wit_types.specs.declared.function.Param.{Param}
use Rattle.wit_types.specs.declared.mangling.AbiVariant.{AbiVariant}
use Rattle.wit_arena.specs.Tree.{Tree, TreeOption, Trees, value_of, resource_leaf}
use Rattle.wit_arena.specs.Unfold.{Owners, part_tree, part_trees, trees}
use Rattle.wit_arena.specs.Standing.{HasTree}
use Rattle.flat_types.specs.Flat.{flat, join_places, repeated}
use Rattle.flat_types.specs.Contents.{holds_string, holds_list}
use Rattle.flat_types.specs.Signature.{SignatureValue, RequiredValue, signature, signature_of, required, required_of}

-- 16 parameters and one more
abbrev pub cap : ℕ
cap = 17

-- the first core types of a value, and what the type holds
pub record FlatValue : Type 0 where
  pub values : List ValType
  pub holds_string : Bool
  pub holds_list : Bool

-- of a type by its tree, where a value is asked
abbrev pub flat_value_of : Tree → FlatValue
flat_value_of t = record { values = take cap (flat (value_of t)); holds_string = holds_string t; holds_list = holds_list t }

-- of core types that hold nothing
abbrev pub holding_nothing : List ValType → FlatValue
holding_nothing values = record { values = values; holds_string = false; holds_list = false }

abbrev pub a_handle : FlatValue
a_handle = holding_nothing (I32 ∷ [])

abbrev pub nothing : FlatValue
nothing = holding_nothing []

-- ---- where it is used

abbrev pub ref_flat : List FlatValue → Ref → FlatValue
ref_flat done (ref.Id i) = get_or done i nothing
ref_flat done ref.Bool = a_handle
ref_flat done ref.U8 = a_handle
ref_flat done ref.U16 = a_handle
ref_flat done ref.U32 = a_handle
ref_flat done ref.U64 = holding_nothing (I64 ∷ [])
ref_flat done ref.S8 = a_handle
ref_flat done ref.S16 = a_handle
ref_flat done ref.S32 = a_handle
ref_flat done ref.S64 = holding_nothing (I64 ∷ [])
ref_flat done ref.F32 = holding_nothing (F32 ∷ [])
ref_flat done ref.F64 = holding_nothing (F64 ∷ [])
ref_flat done ref.Char = a_handle
ref_flat done ref.String = record { values = I32 ∷ I32 ∷ []; holds_string = true; holds_list = false }
ref_flat done ref.ErrorContext = a_handle

abbrev pub part_flat : List FlatValue → Option Ref → FlatValue
part_flat done None = nothing
part_flat done (Some r) = ref_flat done r

-- one after the other, and in the same places
abbrev pub in_order : List FlatValue → List ValType
in_order vs = flat_map (λ (v : FlatValue). v.values) vs

abbrev pub in_place : List FlatValue → List ValType
in_place [] = []
in_place (v ∷ vs) = join_places v.values (in_place vs)

abbrev pub one_holds_string : List FlatValue → Bool
one_holds_string vs = list_any (λ (v : FlatValue). v.holds_string) vs

abbrev pub one_holds_list : List FlatValue → Bool
one_holds_list vs = list_any (λ (v : FlatValue). v.holds_list) vs

-- of parts with these core types together, cut
abbrev pub of_parts : List ValType → List FlatValue → FlatValue
of_parts values vs = record { values = take cap values; holds_string = one_holds_string vs; holds_list = one_holds_list vs }

-- parts that stand one after the other, and cases
abbrev pub of_fields : List FlatValue → FlatValue
of_fields vs = of_parts (in_order vs) vs

abbrev pub of_cases : List FlatValue → FlatValue
of_cases vs = of_parts (I32 ∷ in_place vs) vs

-- ---- by what it is

abbrev pub kind_flat : List FlatValue → TypeDefKind → FlatValue
kind_flat done (kind.Record r) = of_fields (map (λ f. part_flat done (Some f.ty)) r.fields.items)
kind_flat done kind.Resource = a_handle
kind_flat done (kind.Handle h) = a_handle
kind_flat done (kind.Flags f) = a_handle
kind_flat done (kind.Tuple t) = of_fields (map (λ r. part_flat done (Some r)) t.types.items)
kind_flat done (kind.Variant v) = of_cases (map (λ c. part_flat done c.ty) v.cases.items)
kind_flat done (kind.Enum e) = a_handle
kind_flat done (kind.Option r) = of_cases (part_flat done (Some r) ∷ [])
kind_flat done (kind.Result r) = of_cases (part_flat done r.ok ∷ part_flat done r.err ∷ [])
kind_flat done (kind.List r) = record { values = I32 ∷ I32 ∷ []; holds_string = (ref_flat done r).holds_string; holds_list = true }
kind_flat done (kind.FixedLengthList r n) = record (ref_flat done r) { values = take cap (repeated (min cap n) (ref_flat done r).values) }
kind_flat done (kind.Future r) = a_handle
kind_flat done (kind.Stream r) = a_handle
kind_flat done (kind.Alias r) = ref_flat done r
-- what another package has may be a resource, and is taken for one
kind_flat done kind.Unknown = a_handle

abbrev pub flats_from : List FlatValue → List TypeDef → List FlatValue
flats_from done [] = done
flats_from done (d ∷ ds) = flats_from (done ++ kind_flat done d.kind ∷ []) ds

abbrev pub flats : List TypeDef → List FlatValue
flats ds = flats_from [] ds

-- ---- functions

abbrev pub params_flat : List FlatValue → List Param → List FlatValue
params_flat done ps = map (λ (p : Param). ref_flat done p.ty) ps

-- of a function that takes and gives these, by what is known of types
abbrev pub known_signature : List FlatValue → AbiVariant → List Param → Option Ref → SignatureValue
known_signature done variant ps r = signature_of variant (in_order (params_flat done ps)) (part_flat done r).values

abbrev pub known_required : List FlatValue → AbiVariant → List Param → Option Ref → RequiredValue
known_required done variant ps r =
    let params = of_fields (params_flat done ps) in
    let result = part_flat done r in
    let s = known_signature done variant ps r in
    required_of variant params.holds_string params.holds_list result.holds_string result.holds_list s.indirect_params s.retptr

-- ---- the law: what is known of the types of an arena is what their trees have

-- the tree of each type that has one
abbrev pub TypesAreFlat : Owners → List TypeDef → Type 0
TypesAreFlat owners a = (i : ℕ) (t : Tree) → HasTree owners resource_leaf a i t → slice_get (flats a) i ≡ Some (flat_value_of t)

-- functions over such types
abbrev pub FunctionsAreFlat : Owners → List TypeDef → Type 0
FunctionsAreFlat owners a =
    (variant : AbiVariant) (ps : List Param) (r : Option Ref) (params : Trees) (result : TreeOption)
    → part_trees (trees owners resource_leaf a) (map (λ (p : Param). Some p.ty) ps) ≡ Some params
    → part_tree (trees owners resource_leaf a) r ≡ Some result
    → (known_signature (flats a) variant ps r ≡ signature variant params result) × (known_required (flats a) variant ps r ≡ required variant params result)
