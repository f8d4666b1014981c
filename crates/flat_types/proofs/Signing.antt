-- Core types of functions, and what they ask for, from what is known of types.
use Rattle.std.proofs.Common.{◌≡◌, ℕ, zero, suc, ◌+◌, ◌<◌, ◌≤◌, List, [], ◌∷◌, length, Option, Some, map, take, get_or, inl, inr, Bool, true, false, ◌||◌, not, refl, sym, ap, ◌∙◌, length-append, arith}
use Rattle.std.proofs.lemmas.Bool.Decides.{leb_tells, nat_tests}
use Rattle.std.specs.List.{list_any}
use Rattle.std.specs.Prelude.{nat_le, nat_lt}
use Rattle.wasm_types.specs.declared.types.ValType.{ValType}
use Rattle.wit_types.specs.declared.kind.«Type».{«Type» as Ref}
use Rattle.wit_types.specs.declared.interface.TypeDef.{TypeDef}
use Rattle.wit_types.specs.declared.function.Param.{Param}
use Rattle.wit_types.specs.declared.mangling.AbiVariant.{AbiVariant}
use Rattle.wit_types.specs.declared.mangling.AbiVariant.TheVariants.{GuestImport, GuestExport}
use Rattle.wit_arena.specs.Tree.{TreeOption, Trees, resource_leaf}
use Rattle.wit_arena.specs.Unfold.{Owners, trees}
use Rattle.flat_types.specs.Flat.{flat_option, flat_parts}
use Rattle.flat_types.specs.Contents.{part_holds_string, part_holds_list}
use Rattle.flat_types.specs.Signature.{SignatureValue, RequiredValue, signature_with, signature_of, signature, required_of, required}
use Rattle.flat_types.specs.Flats.{cap, FlatValue, part_flat, in_order, one_holds_string, one_holds_list, flats, ref_flat, params_flat, known_signature, known_required, FunctionsAreFlat}
use Rattle.flat_types.proofs.Capped.{Agree, cut_agrees, fewer_agree, same_or_long}
use Rattle.flat_types.proofs.Gathering.{in_order_more, map_read}
use Rattle.flat_types.proofs.Agreeing.{option_flat, each_flat, in_order_agrees, each_holds_string, each_holds_list, part_is_flat, parts_are_flat, all_known}

-- ---- what agrees to the cap has one signature

pub is_long : (n : ℕ) (xs : List ValType) → n < length xs → not (nat_le (length xs) n) ≡ true
is_long n xs h = elim (leb_tells (length xs) n) as (λ _. not (nat_le (length xs) n) ≡ true) [
  | inl p ↦ absurd (omega arith)
  | inr p ↦ ap not p.0
]

-- the test that the code makes
pub is_more : (n m : ℕ) → nat_lt n m ≡ not (nat_le m n)
is_more n m = grind (arith, nat_tests)

long_params : (variant : AbiVariant) (retptr : Bool) (xs ys rs : List ValType) → signature_with variant true retptr xs rs ≡ signature_with variant true retptr ys rs
long_params GuestImport true xs ys rs = refl
long_params GuestImport false xs ys rs = refl
long_params GuestExport true xs ys rs = refl
long_params GuestExport false xs ys rs = refl

long_results : (variant : AbiVariant) (indirect : Bool) (ps xs ys : List ValType) → signature_with variant indirect true ps xs ≡ signature_with variant indirect true ps ys
long_results GuestImport indirect ps xs ys = refl
long_results GuestExport indirect ps xs ys = refl

pub params_agree : (variant : AbiVariant) (xs ys rs : List ValType) → Agree cap xs ys → signature_of variant xs rs ≡ signature_of variant ys rs
params_agree variant xs ys rs a = elim (same_or_long 16 xs ys a) [
  | inl e ↦ ap (λ (zs : List ValType). signature_of variant zs rs) e
  | inr l ↦ rw (is_long 16 xs l.0, is_long 16 ys l.1) (long_params variant (not (nat_le (length rs) 1)) xs ys rs)
]

pub results_agree : (variant : AbiVariant) (ps xs ys : List ValType) → Agree cap xs ys → signature_of variant ps xs ≡ signature_of variant ps ys
results_agree variant ps xs ys a = elim (same_or_long 1 xs ys (fewer_agree cap 2 xs ys (omega arith) a)) [
  | inl e ↦ ap (λ (zs : List ValType). signature_of variant ps zs) e
  | inr l ↦ rw (is_long 1 xs l.0, is_long 1 ys l.1) (long_results variant (not (nat_le (length ps) 16)) ps xs ys)
]

-- ---- functions

signature_is : (variant : AbiVariant) (params : Trees) (result : TreeOption) → signature_of variant (in_order (each_flat params)) (option_flat result).values ≡ signature variant params result
signature_is variant params result =
    params_agree variant (in_order (each_flat params)) (flat_parts params) (option_flat result).values (in_order_agrees params)
    ∙ results_agree variant (flat_parts params) (option_flat result).values (flat_option result) (cut_agrees cap (flat_option result))

abbrev asked : AbiVariant → List FlatValue → FlatValue → SignatureValue → RequiredValue
asked variant ps r s = required_of variant (one_holds_string ps) (one_holds_list ps) r.holds_string r.holds_list s.indirect_params s.retptr

asked_is : (variant : AbiVariant) (params : Trees) (result : TreeOption) → asked variant (each_flat params) (option_flat result) (signature variant params result) ≡ required variant params result
asked_is variant params result =
    let e = each_holds_string params in
    let f = each_holds_list params in
    let s : SignatureValue = signature variant params result in
    λ i. required_of variant (e i) (f i) (part_holds_string result) (part_holds_list result) s.indirect_params s.retptr

pub functions_are_flat : (owners : Owners) (a : List TypeDef) → FunctionsAreFlat owners a
functions_are_flat owners a variant ps r params result h k =
    let known = all_known owners a in
    let p : params_flat (flats a) ps ≡ each_flat params = parts_are_flat (trees owners resource_leaf a) (flats a) known (λ (q : Param). Some q.ty) ps params h in
    let q : part_flat (flats a) r ≡ option_flat result = part_is_flat (trees owners resource_leaf a) (flats a) known r result k in
    let s : known_signature (flats a) variant ps r ≡ signature variant params result = (λ i. signature_of variant (in_order (p i)) (q i).values) ∙ signature_is variant params result in
    (s, (λ i. asked variant (p i) (q i) (s i)) ∙ asked_is variant params result)

-- ---- of parameters that were cut

pub cut_params : (variant : AbiVariant) (vs : List FlatValue) (rs : List ValType) → signature_of variant (take cap (in_order vs)) rs ≡ signature_of variant (in_order vs) rs
cut_params variant vs rs = params_agree variant (take cap (in_order vs)) (in_order vs) rs (cut_agrees cap (in_order vs))

-- ---- of parameters that are counted

-- one more parameter
pub count_more : (done : List FlatValue) (ps : List Param) (i : ℕ) (p : Param) → i < length ps → p ≡ get_or ps i p
    → length (in_order (params_flat done (take (i + 1) ps))) ≡ length (in_order (params_flat done (take i ps))) + length (ref_flat done p.ty).values
count_more done ps i p less read =
    ap (λ (vs : List FlatValue). length (in_order vs)) (map_read (λ (q : Param). ref_flat done q.ty) ps i p less read)
    ∙ ap length (sym (in_order_more (params_flat done (take i ps)) (ref_flat done p.ty)))
    ∙ length-append (in_order (params_flat done (take i ps))) (ref_flat done p.ty).values

-- the first parameters are no more than all
pub count_first : (done : List FlatValue) (ps : List Param) (n : ℕ) → length (in_order (params_flat done (take n ps))) ≤ length (in_order (params_flat done ps))
count_first done ps zero = omega arith
count_first done [] (suc n) = omega arith
count_first done (p ∷ ps) (suc n) =
    let more = count_first done ps n in
    let here = length-append (ref_flat done p.ty).values (in_order (params_flat done (take n ps))) in
    let all = length-append (ref_flat done p.ty).values (in_order (params_flat done ps)) in
    omega (arith, more, here, all)

-- ---- what is asked for

with_indirect : (variant : AbiVariant) (indirect retptr : Bool) (ps rs : List ValType) → (signature_with variant indirect retptr ps rs).indirect_params ≡ indirect
with_indirect GuestImport indirect true ps rs = refl
with_indirect GuestImport indirect false ps rs = refl
with_indirect GuestExport indirect true ps rs = refl
with_indirect GuestExport indirect false ps rs = refl

with_retptr : (variant : AbiVariant) (indirect retptr : Bool) (ps rs : List ValType) → (signature_with variant indirect retptr ps rs).retptr ≡ retptr
with_retptr GuestImport indirect true ps rs = refl
with_retptr GuestImport indirect false ps rs = refl
with_retptr GuestExport indirect true ps rs = refl
with_retptr GuestExport indirect false ps rs = refl

pub any_of_map : {X Y : Type 0} (test : Y → Bool) (f : X → Y) (xs : List X) → list_any test (map f xs) ≡ list_any (λ x. test (f x)) xs
any_of_map test f [] = refl
any_of_map test f (x ∷ xs) = ap (λ (b : Bool). test (f x) || b) (any_of_map test f xs)

-- by what the code looks at
pub required_is : (done : List FlatValue) (variant : AbiVariant) (ps : List Param) (r : Option Ref)
    → required_of variant (list_any (λ (p : Param). (ref_flat done p.ty).holds_string) ps) (list_any (λ (p : Param). (ref_flat done p.ty).holds_list) ps) (part_flat done r).holds_string (part_flat done r).holds_list
    (not (nat_le (length (in_order (params_flat done ps))) 16)) (nat_lt 1 (length (part_flat done r).values))
    ≡ known_required done variant ps r
required_is done variant ps r =
    let params : List ValType = in_order (params_flat done ps) in
    let part : FlatValue = part_flat done r in
    let string = sym (any_of_map (λ (v : FlatValue). v.holds_string) (λ (p : Param). ref_flat done p.ty) ps) in
    let list = sym (any_of_map (λ (v : FlatValue). v.holds_list) (λ (p : Param). ref_flat done p.ty) ps) in
    let indirect = sym (with_indirect variant (not (nat_le (length params) 16)) (not (nat_le (length part.values) 1)) params part.values) in
    let retptr = sym (with_retptr variant (not (nat_le (length params) 16)) (not (nat_le (length part.values) 1)) params part.values) in
    let more = is_more 1 (length part.values) in
    (λ i. required_of variant (string i) (list i) part.holds_string part.holds_list (indirect i) (more i))
    ∙ (λ i. required_of variant (one_holds_string (params_flat done ps)) (one_holds_list (params_flat done ps)) part.holds_string part.holds_list (known_signature done variant ps r).indirect_params (retptr i))
