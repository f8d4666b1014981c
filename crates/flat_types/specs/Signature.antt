-- Core types of functions, and what a function asks for so that its values can be passed (Component Model, Canonical ABI, Flattening,
-- canon lift and canon lower).
use Rattle.std.specs.Prelude.{List, [], ◌∷◌, ◌++◌, length, nat_le, not, Bool, true, false, ◌||◌}
use Rattle.wasm_types.specs.declared.types.ValType.{ValType}
use Rattle.wasm_types.specs.declared.types.ValType.TheVariants.{I32}
use Rattle.wit_types.specs.declared.mangling.AbiVariant.{AbiVariant}
use Rattle.wit_types.specs.declared.mangling.AbiVariant.TheVariants.{GuestImport, GuestExport}
use Rattle.wit_arena.specs.Tree.{Trees, TreeOption}
use Rattle.flat_types.specs.Flat.{flat_option, flat_parts}
use Rattle.flat_types.specs.Contents.{part_holds_string, parts_hold_string, part_holds_list, parts_hold_list}

-- a core type, and whether parameters or results lie in memory instead
pub record SignatureValue : Type 0 where
  pub params : List ValType
  pub results : List ValType
  pub indirect_params : Bool
  pub retptr : Bool

-- more than 16 parameters are one i32, where they lie
abbrev pub params_with : Bool → List ValType → List ValType
params_with true ps = I32 ∷ []
params_with false ps = ps

-- more than one result is one more parameter of an import, where it's to be put, and one i32 of an export, where it lies
abbrev pub signature_with : AbiVariant → Bool → Bool → List ValType → List ValType → SignatureValue
signature_with variant indirect false ps rs = record { params = params_with indirect ps; results = rs; indirect_params = indirect; retptr = false }
signature_with GuestImport indirect true ps rs = record { params = params_with indirect ps ++ I32 ∷ []; results = []; indirect_params = indirect; retptr = true }
signature_with GuestExport indirect true ps rs = record { params = params_with indirect ps; results = I32 ∷ []; indirect_params = indirect; retptr = true }

abbrev pub signature_of : AbiVariant → List ValType → List ValType → SignatureValue
signature_of variant ps rs = signature_with variant (not (nat_le (length ps) 16)) (not (nat_le (length rs) 1)) ps rs

-- of a function that takes these and gives that
abbrev pub signature : AbiVariant → Trees → TreeOption → SignatureValue
signature variant params result = signature_of variant (flat_parts params) (flat_option result)

-- ---- what is asked for

pub record RequiredValue : Type 0 where
  pub memory : Bool
  pub realloc : Bool
  pub encoding : Bool

-- room is made in the module for what comes in: an import's result, an export's parameters
abbrev pub is_incoming : AbiVariant → Bool → Bool → Bool → Bool
is_incoming GuestImport params result indirect = result
is_incoming GuestExport params result indirect = params || indirect

-- A memory for a string or a list anywhere, and where parameters or results lie in memory; an encoding for a string. The parameters
-- hold a string, or a list, and so does the result.
abbrev pub required_of : AbiVariant → Bool → Bool → Bool → Bool → Bool → Bool → RequiredValue
required_of variant params_string params_list result_string result_list indirect retptr = record {
  memory = ((params_string || params_list) || (result_string || result_list)) || (indirect || retptr);
  realloc = is_incoming variant (params_string || params_list) (result_string || result_list) indirect;
  encoding = params_string || result_string;
}

abbrev pub required : AbiVariant → Trees → TreeOption → RequiredValue
required variant params result =
    let s = signature variant params result in
    required_of variant (parts_hold_string params) (parts_hold_list params) (part_holds_string result) (part_holds_list result) s.indirect_params s.retptr
