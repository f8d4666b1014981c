-- What values of types hold of which lies in memory, and what a function asks for so that its values can be passed, by the trees of types
-- (Component Model, Canonical ABI, Storing, canon lift and canon lower).
use Rattle.std.specs.Prelude.{Bool, true, false, ◌&&◌, ◌||◌}
use Rattle.linked_types.specs.Passed.wit_types-declared-mangling-AbiVariant.{AbiVariant}
use Rattle.flat_types.specs.Signature.{SignatureValue, RequiredValue, required_of}
use Rattle.type_writing.specs.Passed.type_meaning-Tree.{Kind, string, list_kind, own_kind, borrow_kind, future_kind, stream_kind, Tree, Parts, named, resource, of, none, gap, part}
use Rattle.flat_trees.specs.Flat.{signature}

abbrev pub is_string : Kind → Bool
is_string string = true
is_string _ = false

-- its length isn't known
abbrev pub is_list : Kind → Bool
is_list list_kind = true
is_list _ = false

-- handles, futures and streams are numbers, whatever they are of
abbrev pub holds_its_parts : Kind → Bool
holds_its_parts own_kind = false
holds_its_parts borrow_kind = false
holds_its_parts future_kind = false
holds_its_parts stream_kind = false
holds_its_parts _ = true

abbrev mutual
  -- a value of such a kind is in it
  pub holds : {N R : Type 0} → (Kind → Bool) → Tree N R → Bool
  holds test (named n t) = holds test t
  holds test (resource r) = false
  holds test (of form ps) = test form.kind || (holds_its_parts form.kind && one_holds test ps)

  pub one_holds : {N R : Type 0} → (Kind → Bool) → Parts N R → Bool
  one_holds test none = false
  one_holds test (gap ps) = one_holds test ps
  one_holds test (part t ps) = holds test t || one_holds test ps

-- ---- functions: the result is the first part, and then come the parameters

abbrev pub result_holds : {N R : Type 0} → (Kind → Bool) → Parts N R → Bool
result_holds test none = false
result_holds test (gap ps) = false
result_holds test (part t ps) = holds test t

abbrev pub params_hold : {N R : Type 0} → (Kind → Bool) → Parts N R → Bool
params_hold test none = false
params_hold test (gap ps) = one_holds test ps
params_hold test (part t ps) = one_holds test ps

abbrev pub required_by : {N R : Type 0} → AbiVariant → SignatureValue → Parts N R → RequiredValue
required_by variant s ps = required_of variant (params_hold is_string ps) (params_hold is_list ps) (result_holds is_string ps) (result_holds is_list ps) s.indirect_params s.retptr

abbrev pub required : {N R : Type 0} → AbiVariant → Tree N R → RequiredValue
required variant (named n t) = required variant t
required variant (resource r) = required_of variant false false false false false false
required variant (of form ps) = required_by variant (signature variant (of form ps)) ps
