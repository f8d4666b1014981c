-- What is known of the core types of types is what their trees have.
use Rattle.std.proofs.Common.{◌≡◌, ℕ, ◌+◌, ◌<◌, ◌⊎◌, Bool, true, ◌||◌, List, [], ◌∷◌, ◌++◌, inl, inr, length, Option, Some, None, map, take, min, refl, sym, subst, ap, ◌∙◌, le_refl, arith}
use Rattle.std.proofs.lemmas.Bool.Decides.{leb_tells}
use Rattle.std.proofs.lemmas.Option.{same_Some, get_or_from_slice_get, slice_get_within}
use Rattle.std.proofs.lemmas.List.{append-nil, append_assoc, length_push}
use Rattle.std.proofs.lemmas.Simd.{map-map}
use Rattle.std.specs.Prelude.{slice_get, flat_map, String, string_bytes}
use Rattle.std.specs.declared.alloc.Global.{Global}
use Rattle.wasm_types.specs.declared.types.ValType.{ValType}
use Rattle.wasm_types.specs.declared.types.ValType.TheVariants.{I32}
use Rattle.linked_types.specs.Passed.wit_types-declared-kind-Type.{«Type» as Ref}
use Rattle.linked_types.specs.Passed.wit_types-declared-kind-Type-TheVariants as ref
use Rattle.linked_types.specs.Passed.wit_types-declared-kind-TypeDefKind.{TypeDefKind}
use Rattle.linked_types.specs.Passed.wit_types-declared-kind-TypeDefKind-TheVariants as kind
use Rattle.linked_types.specs.Passed.wit_types-declared-function-Param.{Param}
use Rattle.linked_types.specs.Passed.wit_types-declared-interface-TypeDef.{TypeDef}
use Rattle.linked_types.specs.Passed.wit_types-declared-interface-TypeOwner.{TypeOwner}
use Rattle.linked_types.specs.Passed.wit_types-declared-mangling-AbiVariant.{AbiVariant}
use Rattle.wit_order.specs.Order.{Has}
use Rattle.wit_order.proofs.Lists.{has_was}
use Rattle.flat_types.proofs.Passed.wit_arena-Lists.{get_kept, get_last}
use Rattle.linked_types.specs.Passed.wit_reach-Ids.{ref_ids, part_ids, kind_ids}
use Rattle.linked_types.specs.Passed.wit_reach-Types.{AreTypesBackward}
use Rattle.linked_types.proofs.Passed.wit_reach-Lists.{has_append, has_parts}
use Rattle.flat_types.specs.Flat.{repeated}
use Rattle.flat_types.specs.Signature.{SignatureValue, RequiredValue, signature_of, required_of}
use Rattle.flat_types.specs.Flats.{cap, FlatValue, nothing, ref_flat, part_flat, in_order as known_in_order, in_place as known_in_place, one_holds_string, one_holds_list, of_fields, of_cases, kind_flat, flats_from, flats, params_flat, known_signature, known_required}
use Rattle.flat_types.proofs.Capped.{Agree, cut_agrees, cons_agrees, appended_agree, joined_agree, repeated_to_cap}
use Rattle.flat_types.proofs.Agreeing.{or_false, alike}
use Rattle.flat_types.proofs.Signing.{params_agree, results_agree}
use Rattle.type_writing.specs.Passed.type_meaning-Tree.{Kind, Form, Tree, Parts, named, of, none, gap, part}
use Rattle.type_writing.specs.Passed.type_meaning-Tree as trees
use Rattle.type_writing.specs.Passed.type_meaning-Syntax.{plain, labelled}
use Rattle.type_writing.specs.Unfolding.{OwnName, WitTree, FormOf, form_of, primitive_of, under_name, Unfolds, unfolds_primitive, unfolds_type, KindUnfolds, unfolds_form, unfolds_alias, PartsUnfold, no_parts, gap_unfolds, part_unfolds}
use Rattle.type_writing.specs.Functions.{function_form, FunctionUnfolds}
use Rattle.flat_trees.specs.Flat.{in_order, in_place, flat, flat_parts, signature}
use Rattle.flat_trees.specs.Held.{is_string, is_list, holds, one_holds, required}
use Rattle.flat_trees.specs.Law.{flat_value, UnfoldedFunctionsAreFlat}
use Rattle.flat_trees.proofs.Parts.{same_parts}

abbrev WitParts : Type 0
WitParts = Parts OwnName OwnName

-- ---- parts one by one

abbrev each_flat : WitParts → List FlatValue
each_flat none = []
each_flat (gap ts) = nothing ∷ each_flat ts
each_flat (part t ts) = flat_value t ∷ each_flat ts

in_order_agrees : (ts : WitParts) → Agree cap (known_in_order (each_flat ts)) (in_order (flat_parts ts))
in_order_agrees none = λ d h. refl
in_order_agrees (gap ts) = in_order_agrees ts
in_order_agrees (part t ts) = appended_agree cap (take cap (flat t)) (flat t) (known_in_order (each_flat ts)) (in_order (flat_parts ts)) (cut_agrees cap (flat t)) (in_order_agrees ts)

in_place_agrees : (ts : WitParts) → Agree cap (known_in_place (each_flat ts)) (in_place (flat_parts ts))
in_place_agrees none = λ d h. refl
in_place_agrees (gap ts) = in_place_agrees ts
in_place_agrees (part t ts) = joined_agree cap (take cap (flat t)) (flat t) (known_in_place (each_flat ts)) (in_place (flat_parts ts)) (cut_agrees cap (flat t)) (in_place_agrees ts)

each_holds_string : (ts : WitParts) → one_holds_string (each_flat ts) ≡ one_holds is_string ts
each_holds_string none = refl
each_holds_string (gap ts) = each_holds_string ts
each_holds_string (part t ts) = ap (λ (b : Bool). holds is_string t || b) (each_holds_string ts)

each_holds_list : (ts : WitParts) → one_holds_list (each_flat ts) ≡ one_holds is_list ts
each_holds_list none = refl
each_holds_list (gap ts) = each_holds_list ts
each_holds_list (part t ts) = ap (λ (b : Bool). holds is_list t || b) (each_holds_list ts)

-- ---- forms over parts

abbrev of_form : Form → WitParts → WitTree
of_form f ts = of f ts

fields_are_flat : (ts : WitParts) (names : List (List ℕ)) → of_fields (each_flat ts) ≡ flat_value (of_form (labelled trees.record_kind names) ts)
fields_are_flat ts names =
    alike (take cap (known_in_order (each_flat ts))) (take cap (in_order (flat_parts ts))) (one_holds_string (each_flat ts)) (one_holds is_string ts) (one_holds_list (each_flat ts)) (one_holds is_list ts)
    (in_order_agrees ts cap (le_refl cap)) (each_holds_string ts) (each_holds_list ts)

cases_are_flat : (ts : WitParts) (names : List (List ℕ)) → of_cases (each_flat ts) ≡ flat_value (of_form (labelled trees.variant_kind names) ts)
cases_are_flat ts names =
    alike (take cap (I32 ∷ known_in_place (each_flat ts))) (take cap (I32 ∷ in_place (flat_parts ts))) (one_holds_string (each_flat ts)) (one_holds is_string ts) (one_holds_list (each_flat ts)) (one_holds is_list ts)
    (cons_agrees cap I32 (known_in_place (each_flat ts)) (in_place (flat_parts ts)) (in_place_agrees ts) cap (le_refl cap)) (each_holds_string ts) (each_holds_list ts)

abbrev of_list : FlatValue → FlatValue
of_list v = record { values = I32 ∷ I32 ∷ []; holds_string = v.holds_string; holds_list = true }

list_is_flat : (v : FlatValue) (ts : WitParts) → v ∷ [] ≡ each_flat ts → of_list v ≡ flat_value (of_form (plain trees.list_kind) ts)
list_is_flat v ts e =
    alike (I32 ∷ I32 ∷ []) (I32 ∷ I32 ∷ []) v.holds_string (one_holds is_string ts) true true
    refl (sym (or_false v.holds_string) ∙ ap one_holds_string e ∙ each_holds_string ts) refl

abbrev times : ℕ → FlatValue → FlatValue
times n v = record v { values = take cap (repeated (min cap n) v.values) }

repeated_is_flat : (n : ℕ) (v : FlatValue) (ts : WitParts) → v ∷ [] ≡ each_flat ts → times n v ≡ flat_value (of_form (record { kind = trees.fixed_length_list_kind; labels = []; number = n }) ts)
repeated_is_flat n v ts e =
    let agree : Agree cap v.values (in_order (flat_parts ts)) = subst (λ (xs : List ValType). Agree cap xs (in_order (flat_parts ts))) (sym (ap known_in_order e) ∙ append-nil v.values) (in_order_agrees ts) in
    alike (take cap (repeated (min cap n) v.values)) (take cap (repeated n (in_order (flat_parts ts)))) v.holds_string (one_holds is_string ts) v.holds_list (one_holds is_list ts)
    (repeated_to_cap cap n v.values (in_order (flat_parts ts)) agree)
    (sym (or_false v.holds_string) ∙ ap one_holds_string e ∙ each_holds_string ts) (sym (or_false v.holds_list) ∙ ap one_holds_list e ∙ each_holds_list ts)

-- ---- by what is known of the types before

name_is_flat : (o : TypeOwner) (n : Option (String Global)) (t : WitTree) → flat_value t ≡ flat_value (under_name o n t)
name_is_flat o None t = refl
name_is_flat o (Some x) t = refl

no_ids : (r : Ref) (k : Kind) → primitive_of r ≡ Some k → ref_ids r ≡ []
no_ids (ref.Id i) k h = absurd cc
no_ids ref.Bool k h = refl
no_ids ref.U8 k h = refl
no_ids ref.U16 k h = refl
no_ids ref.U32 k h = refl
no_ids ref.U64 k h = refl
no_ids ref.S8 k h = refl
no_ids ref.S16 k h = refl
no_ids ref.S32 k h = refl
no_ids ref.S64 k h = refl
no_ids ref.F32 k h = refl
no_ids ref.F64 k h = refl
no_ids ref.Char k h = refl
no_ids ref.String k h = refl
no_ids ref.ErrorContext k h = refl

abbrev primitive_flat : Kind → FlatValue
primitive_flat k = flat_value (of_form (plain k) none)

primitive_is_flat : (vs : List FlatValue) (r : Ref) (k : Kind) → primitive_of r ≡ Some k → ref_flat vs r ≡ primitive_flat k
primitive_is_flat vs (ref.Id i) k h = absurd cc
primitive_is_flat vs ref.Bool k h = ap primitive_flat (same_Some trees.bool k h)
primitive_is_flat vs ref.U8 k h = ap primitive_flat (same_Some trees.u8 k h)
primitive_is_flat vs ref.U16 k h = ap primitive_flat (same_Some trees.u16 k h)
primitive_is_flat vs ref.U32 k h = ap primitive_flat (same_Some trees.u32 k h)
primitive_is_flat vs ref.U64 k h = ap primitive_flat (same_Some trees.u64 k h)
primitive_is_flat vs ref.S8 k h = ap primitive_flat (same_Some trees.s8 k h)
primitive_is_flat vs ref.S16 k h = ap primitive_flat (same_Some trees.s16 k h)
primitive_is_flat vs ref.S32 k h = ap primitive_flat (same_Some trees.s32 k h)
primitive_is_flat vs ref.S64 k h = ap primitive_flat (same_Some trees.s64 k h)
primitive_is_flat vs ref.F32 k h = ap primitive_flat (same_Some trees.f32 k h)
primitive_is_flat vs ref.F64 k h = ap primitive_flat (same_Some trees.f64 k h)
primitive_is_flat vs ref.Char k h = ap primitive_flat (same_Some trees.char k h)
primitive_is_flat vs ref.String k h = ap primitive_flat (same_Some trees.string k h)
primitive_is_flat vs ref.ErrorContext k h = absurd cc

abbrev AreBelow : ℕ → List ℕ → Type 0
AreBelow n ids = (j : ℕ) → Has ids j → j < n

-- what is known is so
abbrev IsKnown : List TypeDef → List FlatValue → Type 0
IsKnown types vs = (i : ℕ) (t : WitTree) → i < length vs → Unfolds types (ref.Id i) t → slice_get vs i ≡ Some (flat_value t)

module _ (types : List TypeDef) (vs : List FlatValue) (known : IsKnown types vs) where
  ref_is_flat : (r : Ref) (t : WitTree) → AreBelow (length vs) (ref_ids r) → Unfolds types r t → ref_flat vs r ≡ flat_value t
  ref_is_flat r _ below (unfolds_primitive _ k h) = primitive_is_flat vs r k h
  ref_is_flat _ _ below (unfolds_type id d t at u) =
      get_or_from_slice_get vs id (flat_value (under_name d.owner d.name t)) nothing (known id (under_name d.owner d.name t) (below id (inl refl)) (unfolds_type id d t at u))

  parts_are_flat : (ps : List (Option Ref)) (ts : WitParts) → AreBelow (length vs) (flat_map part_ids ps) → PartsUnfold types ps ts → map (part_flat vs) ps ≡ each_flat ts
  parts_are_flat _ _ below no_parts = refl
  parts_are_flat _ _ below (gap_unfolds ps ts u) = ap (λ (l : List FlatValue). nothing ∷ l) (parts_are_flat ps ts below u)
  parts_are_flat _ _ below (part_unfolds r t ps ts u us) =
      let e = ref_is_flat r t (λ j h. below j (has_was (ref_ids r) (flat_map part_ids ps) j h)) u in
      let f = parts_are_flat ps ts (λ j h. below j (has_append (ref_ids r) (flat_map part_ids ps) j h)) us in
      λ i. e i ∷ f i

  abbrev Made : TypeDefKind → FormOf → WitParts → Type 0
  Made k f ts = kind_flat vs k ≡ flat_value (of_form f.form ts)

  no_parts_are : (ts : WitParts) → PartsUnfold types [] ts → ts ≡ none
  no_parts_are _ no_parts = refl

  form_is_flat : (k : TypeDefKind) (f : FormOf) (ts : WitParts) → form_of k ≡ Some f → map (part_flat vs) f.parts ≡ each_flat ts → PartsUnfold types f.parts ts → Made k f ts
  form_is_flat (kind.Record r) f ts is e u =
      let g : FormOf = record { form = labelled trees.record_kind (map (λ f. string_bytes f.name) r.fields.items); parts = map (λ f. Some f.ty) r.fields.items } in
      let same : g ≡ f = same_Some g f is in
      let each = subst (λ (x : FormOf). map (part_flat vs) x.parts ≡ each_flat ts) (sym same) e in
      subst (λ (x : FormOf). Made (kind.Record r) x ts) same (ap of_fields (sym (map-map (part_flat vs) (λ f. Some f.ty) r.fields.items) ∙ each) ∙ fields_are_flat ts g.form.labels)
  form_is_flat kind.Resource f ts is e u = absurd cc
  form_is_flat (kind.Handle h) f ts is e u = absurd cc
  form_is_flat (kind.Flags x) f ts is e u =
      let g : FormOf = record { form = labelled trees.flags_kind (map (λ l. string_bytes l.name) x.flags.items); parts = [] } in
      let same : g ≡ f = same_Some g f is in
      let empty : ts ≡ none = no_parts_are ts (subst (λ (x : FormOf). PartsUnfold types x.parts ts) (sym same) u) in
      subst (λ (y : FormOf). Made (kind.Flags x) y ts) same (subst (λ (qs : WitParts). Made (kind.Flags x) g qs) (sym empty) refl)
  form_is_flat (kind.Tuple t) f ts is e u =
      let g : FormOf = record { form = plain trees.tuple_kind; parts = map (λ r. Some r) t.types.items } in
      let same : g ≡ f = same_Some g f is in
      let each = subst (λ (x : FormOf). map (part_flat vs) x.parts ≡ each_flat ts) (sym same) e in
      subst (λ (x : FormOf). Made (kind.Tuple t) x ts) same (ap of_fields (sym (map-map (part_flat vs) (λ r. Some r) t.types.items) ∙ each) ∙ fields_are_flat ts [])
  form_is_flat (kind.Variant v) f ts is e u =
      let g : FormOf = record { form = labelled trees.variant_kind (map (λ c. string_bytes c.name) v.cases.items); parts = map (λ c. c.ty) v.cases.items } in
      let same : g ≡ f = same_Some g f is in
      let each = subst (λ (x : FormOf). map (part_flat vs) x.parts ≡ each_flat ts) (sym same) e in
      subst (λ (x : FormOf). Made (kind.Variant v) x ts) same (ap of_cases (sym (map-map (part_flat vs) (λ c. c.ty) v.cases.items) ∙ each) ∙ cases_are_flat ts g.form.labels)
  form_is_flat (kind.Enum x) f ts is e u =
      let g : FormOf = record { form = labelled trees.enum_kind (map (λ c. string_bytes c.name) x.cases.items); parts = [] } in
      let same : g ≡ f = same_Some g f is in
      let empty : ts ≡ none = no_parts_are ts (subst (λ (x : FormOf). PartsUnfold types x.parts ts) (sym same) u) in
      subst (λ (y : FormOf). Made (kind.Enum x) y ts) same (subst (λ (qs : WitParts). Made (kind.Enum x) g qs) (sym empty) refl)
  form_is_flat (kind.Option r) f ts is e u =
      let g : FormOf = record { form = plain trees.option_kind; parts = Some r ∷ [] } in
      let same : g ≡ f = same_Some g f is in
      let each = subst (λ (x : FormOf). map (part_flat vs) x.parts ≡ each_flat ts) (sym same) e in
      subst (λ (x : FormOf). Made (kind.Option r) x ts) same (ap of_cases each ∙ cases_are_flat ts [])
  form_is_flat (kind.Result r) f ts is e u =
      let g : FormOf = record { form = plain trees.result_kind; parts = r.ok ∷ r.err ∷ [] } in
      let same : g ≡ f = same_Some g f is in
      let each = subst (λ (x : FormOf). map (part_flat vs) x.parts ≡ each_flat ts) (sym same) e in
      subst (λ (x : FormOf). Made (kind.Result r) x ts) same (ap of_cases each ∙ cases_are_flat ts [])
  form_is_flat (kind.List r) f ts is e u =
      let g : FormOf = record { form = plain trees.list_kind; parts = Some r ∷ [] } in
      let same : g ≡ f = same_Some g f is in
      let each = subst (λ (x : FormOf). map (part_flat vs) x.parts ≡ each_flat ts) (sym same) e in
      subst (λ (x : FormOf). Made (kind.List r) x ts) same (list_is_flat (ref_flat vs r) ts each)
  form_is_flat (kind.FixedLengthList r n) f ts is e u =
      let g : FormOf = record { form = record { kind = trees.fixed_length_list_kind; labels = []; number = n }; parts = Some r ∷ [] } in
      let same : g ≡ f = same_Some g f is in
      let each = subst (λ (x : FormOf). map (part_flat vs) x.parts ≡ each_flat ts) (sym same) e in
      subst (λ (x : FormOf). Made (kind.FixedLengthList r n) x ts) same (repeated_is_flat n (ref_flat vs r) ts each)
  form_is_flat (kind.Future x) f ts is e u = absurd cc
  form_is_flat (kind.Stream x) f ts is e u = absurd cc
  form_is_flat (kind.Alias r) f ts is e u = absurd cc
  form_is_flat kind.Unknown f ts is e u = absurd cc

  kind_is_flat : (k : TypeDefKind) (t : WitTree) → AreBelow (length vs) (kind_ids k) → KindUnfolds types k t → kind_flat vs k ≡ flat_value t
  kind_is_flat _ _ below (unfolds_form k f ts is u) =
      form_is_flat k f ts is (parts_are_flat f.parts ts (subst (AreBelow (length vs)) (sym (same_parts k f is)) below) u) u
  kind_is_flat _ _ below (unfolds_alias r t u) = ref_is_flat r t below u

-- ---- all

before_or_last : (n i : ℕ) → i < n + 1 → (i < n) ⊎ (i ≡ n)
before_or_last n i h = elim (leb_tells (i + 1) n) as (λ _. (i < n) ⊎ (i ≡ n)) [
  | inl p ↦ inl (let l = p.1 in omega (arith, l))
  | inr p ↦ inr (let l = p.1 in omega (arith, l, h))
]

get_there : (front : List TypeDef) (d : TypeDef) (back : List TypeDef) → slice_get (front ++ d ∷ back) (length front) ≡ Some d
get_there [] d back = refl
get_there (e ∷ front) d back = get_there front d back

-- the type that stands at a place
def_unfolds : (types : List TypeDef) (i : ℕ) (d : TypeDef) (t : WitTree) → slice_get types i ≡ Some d → Unfolds types (ref.Id i) t → (u : WitTree) × KindUnfolds types d.kind u × (t ≡ under_name d.owner d.name u)
def_unfolds types i d _ at (unfolds_primitive _ k h) = absurd (let f : None ≡ Some k = h in cc)
def_unfolds types _ d _ at (unfolds_type i e u there k) =
    let same : e ≡ d = same_Some e d (sym there ∙ at) in
    (u, subst (λ (x : TypeDef). KindUnfolds types x.kind u) same k, ap (λ (x : TypeDef). under_name x.owner x.name u) same)

head_same : {X : Type 0} (x y : X) (xs ys : List X) → x ∷ xs ≡ y ∷ ys → x ≡ y
head_same x y xs ys e = cc

tail_same : {X : Type 0} (x y : X) (xs ys : List X) → x ∷ xs ≡ y ∷ ys → xs ≡ ys
tail_same x y xs ys e = cc

module _ (types : List TypeDef) (backward : AreTypesBackward types) where
  known_more : (vs : List FlatValue) (d : TypeDef) → slice_get types (length vs) ≡ Some d → IsKnown types vs → IsKnown types (vs ++ kind_flat vs d.kind ∷ [])
  known_more vs d at known i t within u = elim (before_or_last (length vs) i (let n = length_push vs (kind_flat vs d.kind) in omega (arith, n, within))) as (λ _. slice_get (vs ++ kind_flat vs d.kind ∷ []) i ≡ Some (flat_value t)) [
    | inl less ↦ get_kept vs (kind_flat vs d.kind ∷ []) i (flat_value t) (known i t less u)
    | inr last ↦
        let at_i : slice_get types i ≡ Some d = subst (λ (k : ℕ). slice_get types k ≡ Some d) (sym last) at in
        let w = def_unfolds types i d t at_i u in
        let e : kind_flat vs d.kind ≡ flat_value t =
        kind_is_flat types vs known d.kind w.0 (λ j h. subst (λ (k : ℕ). j < k) last (backward i j (d, at_i, h))) w.1 ∙ name_is_flat d.owner d.name w.0 ∙ ap flat_value (sym w.2) in
        subst (λ (k : ℕ). slice_get (vs ++ kind_flat vs d.kind ∷ []) k ≡ Some (flat_value t)) (sym last) (get_last vs (kind_flat vs d.kind) ∙ ap (λ (v : FlatValue). Some v) e)
  ]

  known_from : (front ds : List TypeDef) (vs : List FlatValue) → types ≡ front ++ ds → length vs ≡ length front → IsKnown types vs → IsKnown types (flats_from vs ds) × (length (flats_from vs ds) ≡ length types)
  known_from front [] vs e n known = (known, n ∙ ap length (sym (append-nil front)) ∙ ap length (sym e))
  known_from front (d ∷ ds) vs e n known =
      let at : slice_get types (length vs) ≡ Some d = subst (λ (k : ℕ). slice_get types k ≡ Some d) (sym n) (subst (λ (l : List TypeDef). slice_get l (length front) ≡ Some d) (sym e) (get_there front d ds)) in
      known_from (front ++ d ∷ []) ds (vs ++ kind_flat vs d.kind ∷ []) (e ∙ sym (append_assoc front (d ∷ []) ds))
      (length_push vs (kind_flat vs d.kind) ∙ ap (λ (k : ℕ). k + 1) n ∙ sym (length_push front d)) (known_more vs d at known)

  all_known : IsKnown types (flats types) × (length (flats types) ≡ length types)
  all_known = known_from [] types [] refl refl (λ i t h u. absurd (omega (arith, h)))

  -- what unfolds is there
  ref_below : (r : Ref) (t : WitTree) → Unfolds types r t → AreBelow (length (flats types)) (ref_ids r)
  ref_below r _ (unfolds_primitive _ k h) j has = absurd (subst (λ (ids : List ℕ). Has ids j) (no_ids r k h) has)
  ref_below _ _ (unfolds_type id d t at u) j has = elim has as (λ _. j < length (flats types)) [
    | inl e ↦ (let w : id < length types = slice_get_within types id d at in let n : length (flats types) ≡ length types = all_known.1 in omega (arith, w, n, e))
    | inr none_more ↦ absurd none_more
  ]

  parts_below : (ps : List (Option Ref)) (ts : WitParts) → PartsUnfold types ps ts → AreBelow (length (flats types)) (flat_map part_ids ps)
  parts_below _ _ no_parts j has = absurd has
  parts_below _ _ (gap_unfolds ps ts u) j has = parts_below ps ts u j has
  parts_below _ _ (part_unfolds r t ps ts u us) j has = elim (has_parts (ref_ids r) (flat_map part_ids ps) j has) as (λ _. j < length (flats types)) [
    | inl h ↦ ref_below r t u j h
    | inr h ↦ parts_below ps ts us j h
  ]

  type_is : (r : Ref) (t : WitTree) → Unfolds types r t → ref_flat (flats types) r ≡ flat_value t
  type_is r t u = ref_is_flat types (flats types) all_known.0 r t (ref_below r t u) u

  -- ---- functions

  function_parts : (ps : List Param) (r : Option Ref) (ts : WitParts) → PartsUnfold types (function_form ps r).parts ts → part_flat (flats types) r ∷ params_flat (flats types) ps ≡ each_flat ts
  function_parts ps r ts u =
      ap (λ (l : List FlatValue). part_flat (flats types) r ∷ l) (sym (map-map (part_flat (flats types)) (λ (p : Param). Some p.ty) ps))
      ∙ parts_are_flat types (flats types) all_known.0 (function_form ps r).parts ts (parts_below (function_form ps r).parts ts u) u

  -- where there is a result, and where there is none
  signature_by_parts : (variant : AbiVariant) (form : Form) (v : FlatValue) (vs : List FlatValue) (ts : WitParts) → v ∷ vs ≡ each_flat ts → signature_of variant (known_in_order vs) v.values ≡ signature variant (of_form form ts)
  signature_by_parts variant form v vs none e = absurd (let f : v ∷ vs ≡ [] = e in cc)
  signature_by_parts variant form v vs (gap ts) e =
      let heads : v ≡ nothing = head_same v nothing vs (each_flat ts) e in
      let tails : vs ≡ each_flat ts = tail_same v nothing vs (each_flat ts) e in
      (λ i. signature_of variant (known_in_order (tails i)) (heads i).values) ∙ params_agree variant (known_in_order (each_flat ts)) (in_order (flat_parts ts)) [] (in_order_agrees ts)
  signature_by_parts variant form v vs (part t ts) e =
      let heads : v ≡ flat_value t = head_same v (flat_value t) vs (each_flat ts) e in
      let tails : vs ≡ each_flat ts = tail_same v (flat_value t) vs (each_flat ts) e in
      (λ i. signature_of variant (known_in_order (tails i)) (heads i).values)
      ∙ params_agree variant (known_in_order (each_flat ts)) (in_order (flat_parts ts)) (take cap (flat t)) (in_order_agrees ts)
      ∙ results_agree variant (in_order (flat_parts ts)) (take cap (flat t)) (flat t) (cut_agrees cap (flat t))

  signature_is : (variant : AbiVariant) (ps : List Param) (r : Option Ref) (t : WitTree) → FunctionUnfolds types ps r t → known_signature (flats types) variant ps r ≡ signature variant t
  signature_is variant ps r t u =
      signature_by_parts variant (function_form ps r).form (part_flat (flats types) r) (params_flat (flats types) ps) u.parts (function_parts ps r u.parts u.unfolds) ∙ ap (signature variant) (sym u.is)

  abbrev asked : AbiVariant → List FlatValue → FlatValue → SignatureValue → RequiredValue
  asked variant ps r s = required_of variant (one_holds_string ps) (one_holds_list ps) r.holds_string r.holds_list s.indirect_params s.retptr

  required_by_parts : (variant : AbiVariant) (form : Form) (v : FlatValue) (vs : List FlatValue) (ts : WitParts) → v ∷ vs ≡ each_flat ts → asked variant vs v (signature variant (of_form form ts)) ≡ required variant (of_form form ts)
  required_by_parts variant form v vs none e = absurd (let f : v ∷ vs ≡ [] = e in cc)
  required_by_parts variant form v vs (gap ts) e =
      let heads : v ≡ nothing = head_same v nothing vs (each_flat ts) e in
      let tails : vs ≡ each_flat ts = tail_same v nothing vs (each_flat ts) e in
      let s : SignatureValue = signature variant (of_form form (gap ts)) in
      let strings : one_holds_string vs ≡ one_holds is_string ts = ap one_holds_string tails ∙ each_holds_string ts in
      let lists : one_holds_list vs ≡ one_holds is_list ts = ap one_holds_list tails ∙ each_holds_list ts in
      λ i. required_of variant (strings i) (lists i) (heads i).holds_string (heads i).holds_list s.indirect_params s.retptr
  required_by_parts variant form v vs (part t ts) e =
      let heads : v ≡ flat_value t = head_same v (flat_value t) vs (each_flat ts) e in
      let tails : vs ≡ each_flat ts = tail_same v (flat_value t) vs (each_flat ts) e in
      let s : SignatureValue = signature variant (of_form form (part t ts)) in
      let strings : one_holds_string vs ≡ one_holds is_string ts = ap one_holds_string tails ∙ each_holds_string ts in
      let lists : one_holds_list vs ≡ one_holds is_list ts = ap one_holds_list tails ∙ each_holds_list ts in
      λ i. required_of variant (strings i) (lists i) (heads i).holds_string (heads i).holds_list s.indirect_params s.retptr

  required_is : (variant : AbiVariant) (ps : List Param) (r : Option Ref) (t : WitTree) → FunctionUnfolds types ps r t → known_required (flats types) variant ps r ≡ required variant t
  required_is variant ps r t u =
      ap (asked variant (params_flat (flats types) ps) (part_flat (flats types) r)) (signature_is variant ps r t u ∙ ap (signature variant) u.is)
      ∙ required_by_parts variant (function_form ps r).form (part_flat (flats types) r) (params_flat (flats types) ps) u.parts (function_parts ps r u.parts u.unfolds) ∙ ap (required variant) (sym u.is)

pub unfolded_are_flat : UnfoldedFunctionsAreFlat
unfolded_are_flat = record {
  types = λ types r t backward u. type_is types backward r t u;
  signatures = λ types variant ps r t backward u. signature_is types backward variant ps r t u;
  options = λ types variant ps r t backward u. required_is types backward variant ps r t u;
}
