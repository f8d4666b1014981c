-- What is made of types is made of them where they are moved.
use Rattle.std.proofs.Common.{◌≡◌, ℕ, true, List, [], ◌∷◌, Option, Some, None, refl, sym, subst, ap, map}
use Rattle.std.proofs.lemmas.Bool.{and_parts}
use Rattle.std.specs.List.{list_all}
use Rattle.std.specs.Prelude.{slice_get, option_map, string_bytes}
use Rattle.wit_reach.specs.Passed.wit_types-declared-kind-Type.{«Type» as Ref}
use Rattle.wit_reach.specs.Passed.wit_types-declared-kind-Type-TheVariants as ref
use Rattle.wit_reach.specs.Passed.wit_types-declared-kind-Handle.{Handle}
use Rattle.wit_reach.specs.Passed.wit_types-declared-kind-Handle-TheVariants as handle
use Rattle.wit_reach.specs.Passed.wit_types-declared-kind-Field.{Field}
use Rattle.wit_reach.specs.Passed.wit_types-declared-kind-Case.{Case}
use Rattle.wit_reach.specs.Passed.wit_types-declared-function-Param.{Param}
use Rattle.wit_reach.specs.Passed.wit_types-declared-kind-TypeDefKind.{TypeDefKind}
use Rattle.wit_reach.specs.Passed.wit_types-declared-kind-TypeDefKind-TheVariants as kind
use Rattle.wit_reach.specs.Passed.wit_types-declared-interface-TypeOwner.{TypeOwner}
use Rattle.wit_reach.specs.Passed.wit_types-declared-interface-TypeOwner-TheVariants as belongs
use Rattle.wit_arena.specs.Tree.{Name, Owner, Tree, TreeOption, Trees, a_tree, trees_and, list_tree, fixed_length_list_tree, option_tree, tuple_tree, result_tree, future_tree, stream_tree, own_tree, borrow_tree, record_tree, variant_tree, named_tree, value_of}
use Rattle.wit_arena.specs.Unfold.{flat, ref_tree, value_tree, part_tree, part_trees, handle_tree, kind_tree, named_kind_tree, nameless_tree}
use Rattle.wit_arena.proofs.Unfolding.{kept_map, kept_then}
use Rattle.wit_moves.specs.Moved as moved
use Rattle.wit_moves.specs.Moved.{Places, is_placed, is_ref_placed, is_part_placed, is_handle_placed, is_kind_placed, moved_ref, moved_part, moved_field, moved_case, moved_param, moved_handle, IsMovedKind}

field_names : (f : ℕ → ℕ) (xs : List Field) → map (λ (x : Field). string_bytes x.name) (map (moved_field f) xs) ≡ map (λ (x : Field). string_bytes x.name) xs
field_names f [] = refl
field_names f (x ∷ xs) = ap (λ (ns : List (List ℕ)). string_bytes x.name ∷ ns) (field_names f xs)

pub param_names : (f : ℕ → ℕ) (xs : List Param) → map (λ (x : Param). string_bytes x.name) (map (moved_param f) xs) ≡ map (λ (x : Param). string_bytes x.name) xs
param_names f [] = refl
param_names f (x ∷ xs) = ap (λ (ns : List (List ℕ)). string_bytes x.name ∷ ns) (param_names f xs)

case_names : (f : ℕ → ℕ) (xs : List Case) → map (λ (x : Case). string_bytes x.name) (map (moved_case f) xs) ≡ map (λ (x : Case). string_bytes x.name) xs
case_names f [] = refl
case_names f (x ∷ xs) = ap (λ (ns : List (List ℕ)). string_bytes x.name ∷ ns) (case_names f xs)

-- where what has a place has its tree there too
module _ (places : Places) (f : ℕ → ℕ) (done there : List (Option Tree)) (follows : (i : ℕ) (t : Tree) → is_placed places i ≡ true → flat (slice_get done i) ≡ Some t → flat (slice_get there (f i)) ≡ Some t) where
  pub ref_follows : (r : Ref) (t : Tree) → is_ref_placed places r ≡ true → ref_tree done r ≡ Some t → ref_tree there (moved_ref f r) ≡ Some t
  ref_follows (ref.Id i) t p h = follows i t p h
  ref_follows ref.Bool t p h = h
  ref_follows ref.U8 t p h = h
  ref_follows ref.U16 t p h = h
  ref_follows ref.U32 t p h = h
  ref_follows ref.U64 t p h = h
  ref_follows ref.S8 t p h = h
  ref_follows ref.S16 t p h = h
  ref_follows ref.S32 t p h = h
  ref_follows ref.S64 t p h = h
  ref_follows ref.F32 t p h = h
  ref_follows ref.F64 t p h = h
  ref_follows ref.Char t p h = h
  ref_follows ref.String t p h = h
  ref_follows ref.ErrorContext t p h = h

  value_follows : (r : Ref) (t : Tree) → is_ref_placed places r ≡ true → value_tree done r ≡ Some t → value_tree there (moved_ref f r) ≡ Some t
  value_follows r t p h = kept_map value_of (ref_tree done r) (ref_tree there (moved_ref f r)) t (λ u. ref_follows r u p) h

  pub part_follows : (r : Option Ref) (t : TreeOption) → is_part_placed places r ≡ true → part_tree done r ≡ Some t → part_tree there (moved_part f r) ≡ Some t
  part_follows None t p h = h
  part_follows (Some r) t p h = kept_map a_tree (value_tree done r) (value_tree there (moved_ref f r)) t (λ u. value_follows r u p) h

  -- rows of parts, by what is moved of each
  row_follows : (r : Option Ref) (rs qs : List (Option Ref)) (ts : Trees) → is_part_placed places r ≡ true → ((us : Trees) → part_trees done rs ≡ Some us → part_trees there qs ≡ Some us)
      → part_trees done (r ∷ rs) ≡ Some ts → part_trees there (moved_part f r ∷ qs) ≡ Some ts
  row_follows r rs qs ts p rest h =
      kept_then (λ (t : TreeOption). option_map (trees_and t) (part_trees done rs)) (λ (t : TreeOption). option_map (trees_and t) (part_trees there qs)) (part_tree done r) (part_tree there (moved_part f r)) ts
      (λ u. part_follows r u p) (λ u. kept_map (trees_and u) (part_trees done rs) (part_trees there qs) ts rest) h

  fields_follow : (xs : List Field) → list_all (λ (x : Field). is_ref_placed places x.ty) xs ≡ true → (ts : Trees) → part_trees done (map (λ (x : Field). Some x.ty) xs) ≡ Some ts → part_trees there (map (λ (x : Field). Some x.ty) (map (moved_field f) xs)) ≡ Some ts
  fields_follow [] p ts h = h
  fields_follow (x ∷ xs) p ts h =
      let q = and_parts (is_ref_placed places x.ty) (list_all (λ (x : Field). is_ref_placed places x.ty) xs) p in
      row_follows (Some x.ty) (map (λ (x : Field). Some x.ty) xs) (map (λ (x : Field). Some x.ty) (map (moved_field f) xs)) ts q.0 (fields_follow xs q.1) h

  pub params_follow : (xs : List Param) → list_all (λ (x : Param). is_ref_placed places x.ty) xs ≡ true → (ts : Trees) → part_trees done (map (λ (x : Param). Some x.ty) xs) ≡ Some ts → part_trees there (map (λ (x : Param). Some x.ty) (map (moved_param f) xs)) ≡ Some ts
  params_follow [] p ts h = h
  params_follow (x ∷ xs) p ts h =
      let q = and_parts (is_ref_placed places x.ty) (list_all (λ (x : Param). is_ref_placed places x.ty) xs) p in
      row_follows (Some x.ty) (map (λ (x : Param). Some x.ty) xs) (map (λ (x : Param). Some x.ty) (map (moved_param f) xs)) ts q.0 (params_follow xs q.1) h

  cases_follow : (xs : List Case) → list_all (λ (x : Case). is_part_placed places x.ty) xs ≡ true → (ts : Trees) → part_trees done (map (λ (x : Case). x.ty) xs) ≡ Some ts → part_trees there (map (λ (x : Case). x.ty) (map (moved_case f) xs)) ≡ Some ts
  cases_follow [] p ts h = h
  cases_follow (x ∷ xs) p ts h =
      let q = and_parts (is_part_placed places x.ty) (list_all (λ (x : Case). is_part_placed places x.ty) xs) p in
      row_follows x.ty (map (λ (x : Case). x.ty) xs) (map (λ (x : Case). x.ty) (map (moved_case f) xs)) ts q.0 (cases_follow xs q.1) h

  types_follow : (xs : List Ref) → list_all (is_ref_placed places) xs ≡ true → (ts : Trees) → part_trees done (map (λ (x : Ref). Some x) xs) ≡ Some ts → part_trees there (map (λ (x : Ref). Some x) (map (moved_ref f) xs)) ≡ Some ts
  types_follow [] p ts h = h
  types_follow (x ∷ xs) p ts h =
      let q = and_parts (is_ref_placed places x) (list_all (is_ref_placed places) xs) p in
      row_follows (Some x) (map (λ (x : Ref). Some x) xs) (map (λ (x : Ref). Some x) (map (moved_ref f) xs)) ts q.0 (types_follow xs q.1) h

  handle_follows : (x : Handle) (t : Tree) → is_handle_placed places x ≡ true → handle_tree done x ≡ Some t → handle_tree there (moved_handle f x) ≡ Some t
  handle_follows (handle.Own i) t p h = kept_map own_tree (flat (slice_get done i)) (flat (slice_get there (f i))) t (λ u. follows i u p) h
  handle_follows (handle.Borrow i) t p h = kept_map borrow_tree (flat (slice_get done i)) (flat (slice_get there (f i))) t (λ u. follows i u p) h

  pub kind_follows : (k l : TypeDefKind) (t : Tree) → is_kind_placed places k ≡ true → IsMovedKind f k l → kind_tree done k ≡ Some t → kind_tree there l ≡ Some t
  kind_follows _ _ t p (moved.moved_record r s e) h =
      subst (λ (xs : List Field). option_map (record_tree (map (λ (x : Field). string_bytes x.name) xs)) (part_trees there (map (λ (x : Field). Some x.ty) xs)) ≡ Some t) (sym e)
      (subst (λ (ns : List (List ℕ)). option_map (record_tree ns) (part_trees there (map (λ (x : Field). Some x.ty) (map (moved_field f) r.fields.items))) ≡ Some t) (sym (field_names f r.fields.items))
      (kept_map (record_tree (map (λ (x : Field). string_bytes x.name) r.fields.items)) (part_trees done (map (λ (x : Field). Some x.ty) r.fields.items)) (part_trees there (map (λ (x : Field). Some x.ty) (map (moved_field f) r.fields.items))) t (fields_follow r.fields.items p) h))
  kind_follows _ _ t p moved.moved_resource h = h
  kind_follows _ _ t p (moved.moved_handle_kind x) h = handle_follows x t p h
  kind_follows _ _ t p (moved.moved_flags x) h = h
  kind_follows _ _ t p (moved.moved_tuple u v e) h =
      subst (λ (xs : List Ref). option_map tuple_tree (part_trees there (map (λ (x : Ref). Some x) xs)) ≡ Some t) (sym e)
      (kept_map tuple_tree (part_trees done (map (λ (x : Ref). Some x) u.types.items)) (part_trees there (map (λ (x : Ref). Some x) (map (moved_ref f) u.types.items))) t (types_follow u.types.items p) h)
  kind_follows _ _ t p (moved.moved_variant v w e) h =
      subst (λ (xs : List Case). option_map (variant_tree (map (λ (x : Case). string_bytes x.name) xs)) (part_trees there (map (λ (x : Case). x.ty) xs)) ≡ Some t) (sym e)
      (subst (λ (ns : List (List ℕ)). option_map (variant_tree ns) (part_trees there (map (λ (x : Case). x.ty) (map (moved_case f) v.cases.items))) ≡ Some t) (sym (case_names f v.cases.items))
      (kept_map (variant_tree (map (λ (x : Case). string_bytes x.name) v.cases.items)) (part_trees done (map (λ (x : Case). x.ty) v.cases.items)) (part_trees there (map (λ (x : Case). x.ty) (map (moved_case f) v.cases.items))) t (cases_follow v.cases.items p) h))
  kind_follows _ _ t p (moved.moved_enum x) h = h
  kind_follows _ _ t p (moved.moved_option r) h = kept_map option_tree (value_tree done r) (value_tree there (moved_ref f r)) t (λ u. value_follows r u p) h
  kind_follows _ _ t p (moved.moved_result r) h =
      let q = and_parts (is_part_placed places r.ok) (is_part_placed places r.err) p in
      kept_then (λ (u : TreeOption). option_map (result_tree u) (part_tree done r.err)) (λ (u : TreeOption). option_map (result_tree u) (part_tree there (moved_part f r.err))) (part_tree done r.ok) (part_tree there (moved_part f r.ok)) t
      (λ u. part_follows r.ok u q.0) (λ u. kept_map (result_tree u) (part_tree done r.err) (part_tree there (moved_part f r.err)) t (λ v. part_follows r.err v q.1)) h
  kind_follows _ _ t p (moved.moved_list r) h = kept_map list_tree (value_tree done r) (value_tree there (moved_ref f r)) t (λ u. value_follows r u p) h
  kind_follows _ _ t p (moved.moved_fixed_length_list r n) h = kept_map (λ (u : Tree). fixed_length_list_tree u n) (value_tree done r) (value_tree there (moved_ref f r)) t (λ u. value_follows r u p) h
  kind_follows _ _ t p (moved.moved_future r) h = kept_map future_tree (part_tree done r) (part_tree there (moved_part f r)) t (λ u. part_follows r u p) h
  kind_follows _ _ t p (moved.moved_stream r) h = kept_map stream_tree (part_tree done r) (part_tree there (moved_part f r)) t (λ u. part_follows r u p) h
  kind_follows _ _ t p (moved.moved_alias r) h = ref_follows r t p h
  kind_follows _ _ t p moved.moved_unknown h = h

  pub named_follows : (given : Owner → Name → Tree) (o : Owner) (x : Name) (k l : TypeDefKind) (t : Tree) → is_kind_placed places k ≡ true → IsMovedKind f k l → named_kind_tree given done o x k ≡ Some t → named_kind_tree given there o x l ≡ Some t
  named_follows given o x _ _ t p moved.moved_resource h = h
  named_follows given o x _ _ t p moved.moved_unknown h = h
  named_follows given o x _ _ t p (moved.moved_record r s e) h = kept_map (named_tree o x) (kind_tree done (kind.Record r)) (kind_tree there (kind.Record s)) t (λ u. kind_follows (kind.Record r) (kind.Record s) u p (moved.moved_record r s e)) h
  named_follows given o x _ _ t p (moved.moved_handle_kind y) h = kept_map (named_tree o x) (kind_tree done (kind.Handle y)) (kind_tree there (kind.Handle (moved_handle f y))) t (λ u. handle_follows y u p) h
  named_follows given o x _ _ t p (moved.moved_flags y) h = h
  named_follows given o x _ _ t p (moved.moved_tuple u v e) h = kept_map (named_tree o x) (kind_tree done (kind.Tuple u)) (kind_tree there (kind.Tuple v)) t (λ w. kind_follows (kind.Tuple u) (kind.Tuple v) w p (moved.moved_tuple u v e)) h
  named_follows given o x _ _ t p (moved.moved_variant v w e) h = kept_map (named_tree o x) (kind_tree done (kind.Variant v)) (kind_tree there (kind.Variant w)) t (λ u. kind_follows (kind.Variant v) (kind.Variant w) u p (moved.moved_variant v w e)) h
  named_follows given o x _ _ t p (moved.moved_enum y) h = h
  named_follows given o x _ _ t p (moved.moved_option r) h = kept_map (named_tree o x) (kind_tree done (kind.Option r)) (kind_tree there (kind.Option (moved_ref f r))) t (λ u. kind_follows (kind.Option r) (kind.Option (moved_ref f r)) u p (moved.moved_option r)) h
  named_follows given o x _ _ t p (moved.moved_result r) h =
      kept_map (named_tree o x) (kind_tree done (kind.Result r)) (kind_tree there (kind.Result (record { ok = moved_part f r.ok; err = moved_part f r.err }))) t (λ u. kind_follows (kind.Result r) (kind.Result (record { ok = moved_part f r.ok; err = moved_part f r.err })) u p (moved.moved_result r)) h
  named_follows given o x _ _ t p (moved.moved_list r) h = kept_map (named_tree o x) (kind_tree done (kind.List r)) (kind_tree there (kind.List (moved_ref f r))) t (λ u. kind_follows (kind.List r) (kind.List (moved_ref f r)) u p (moved.moved_list r)) h
  named_follows given o x _ _ t p (moved.moved_fixed_length_list r n) h =
      kept_map (named_tree o x) (kind_tree done (kind.FixedLengthList r n)) (kind_tree there (kind.FixedLengthList (moved_ref f r) n)) t (λ u. kind_follows (kind.FixedLengthList r n) (kind.FixedLengthList (moved_ref f r) n) u p (moved.moved_fixed_length_list r n)) h
  named_follows given o x _ _ t p (moved.moved_future r) h = kept_map (named_tree o x) (kind_tree done (kind.Future r)) (kind_tree there (kind.Future (moved_part f r))) t (λ u. kind_follows (kind.Future r) (kind.Future (moved_part f r)) u p (moved.moved_future r)) h
  named_follows given o x _ _ t p (moved.moved_stream r) h = kept_map (named_tree o x) (kind_tree done (kind.Stream r)) (kind_tree there (kind.Stream (moved_part f r))) t (λ u. kind_follows (kind.Stream r) (kind.Stream (moved_part f r)) u p (moved.moved_stream r)) h
  named_follows given o x _ _ t p (moved.moved_alias r) h = kept_map (named_tree o x) (kind_tree done (kind.Alias r)) (kind_tree there (kind.Alias (moved_ref f r))) t (λ u. ref_follows r u p) h

  pub nameless_follows : (o : TypeOwner) (k l : TypeDefKind) (t : Tree) → is_kind_placed places k ≡ true → IsMovedKind f k l → nameless_tree done o k ≡ Some t → (o ≡ belongs.None) × (nameless_tree there belongs.None l ≡ Some t)
  nameless_follows belongs.None k l t p m h = (refl, kind_follows k l t p m h)
  nameless_follows (belongs.World w) k l t p m h = absurd cc
  nameless_follows (belongs.Interface i) k l t p m h = absurd cc
