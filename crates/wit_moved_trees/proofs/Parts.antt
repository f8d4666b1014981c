-- What something that is moved is made of: what it was made of, where that is moved.
use Rattle.std.proofs.Common.{◌≡◌, ℕ, Bool, true, List, [], ◌∷◌, ◌++◌, inl, inr, Option, Some, None, refl, sym, subst, map}
use Rattle.std.proofs.lemmas.Bool.{and_parts}
use Rattle.std.specs.List.{list_all}
use Rattle.std.specs.Prelude.{flat_map}
use Rattle.wit_reach.specs.Passed.wit_types-declared-kind-Type.{«Type» as Ref}
use Rattle.wit_reach.specs.Passed.wit_types-declared-kind-Type-TheVariants as ref
use Rattle.wit_reach.specs.Passed.wit_types-declared-kind-Handle.{Handle}
use Rattle.wit_reach.specs.Passed.wit_types-declared-kind-Handle-TheVariants as handle
use Rattle.wit_reach.specs.Passed.wit_types-declared-kind-Field.{Field}
use Rattle.wit_reach.specs.Passed.wit_types-declared-kind-Case.{Case}
use Rattle.wit_reach.specs.Passed.wit_types-declared-kind-TypeDefKind.{TypeDefKind}
use Rattle.wit_reach.specs.Passed.wit_types-declared-kind-TypeDefKind-TheVariants as kind
use Rattle.wit_reach.specs.Passed.wit_types-declared-function-Param.{Param}
use Rattle.wit_reach.specs.Passed.wit_types-declared-function-Function.{Function}
use Rattle.wit_reach.specs.Passed.wit_types-declared-function-FunctionKind.{FunctionKind}
use Rattle.wit_reach.specs.Passed.wit_types-declared-function-FunctionKind-TheVariants as of
use Rattle.wit_moves.specs.Moved as moved
use Rattle.wit_moves.specs.Moved.{Places, is_placed, is_ref_placed, is_part_placed, is_handle_placed, is_kind_placed, resource_of, is_resource_placed, is_signature_placed, moved_ref, moved_part, moved_field, moved_case, moved_param, moved_handle, moved_function_kind, IsMovedKind, IsMovedFunction}
use Rattle.wit_moves.specs.Passed.wit_order-Order.{Has}
use Rattle.wit_reach.specs.Ids.{ref_ids, part_ids, handle_ids, kind_ids, resource_ids, signature_ids, function_ids}
use Rattle.wit_reach.proofs.Lists.{has_append, has_parts}
use Rattle.wit_moves.proofs.Passed.wit_order-Lists.{has_was}

-- ---- where it is from

module _ (f : ℕ → ℕ) where
  -- it is one of these, moved
  abbrev pub IsMovedOf : List ℕ → ℕ → Type 0
  IsMovedOf ids j = (i : ℕ) × Has ids i × (f i ≡ j)

  pub id_from : (i j : ℕ) → Has (f i ∷ []) j → IsMovedOf (i ∷ []) j
  id_from i j h = elim h as (λ _. IsMovedOf (i ∷ []) j) [ inl same ↦ (i, inl refl, sym same) | inr none ↦ absurd none ]

  pub ref_from : (r : Ref) (j : ℕ) → Has (ref_ids (moved_ref f r)) j → IsMovedOf (ref_ids r) j
  ref_from (ref.Id i) j h = id_from i j h
  ref_from ref.Bool j h = absurd h
  ref_from ref.U8 j h = absurd h
  ref_from ref.U16 j h = absurd h
  ref_from ref.U32 j h = absurd h
  ref_from ref.U64 j h = absurd h
  ref_from ref.S8 j h = absurd h
  ref_from ref.S16 j h = absurd h
  ref_from ref.S32 j h = absurd h
  ref_from ref.S64 j h = absurd h
  ref_from ref.F32 j h = absurd h
  ref_from ref.F64 j h = absurd h
  ref_from ref.Char j h = absurd h
  ref_from ref.String j h = absurd h
  ref_from ref.ErrorContext j h = absurd h

  pub part_from : (p : Option Ref) (j : ℕ) → Has (part_ids (moved_part f p)) j → IsMovedOf (part_ids p) j
  part_from None j h = absurd h
  part_from (Some r) j h = ref_from r j h

  handle_from : (x : Handle) (j : ℕ) → Has (handle_ids (moved_handle f x)) j → IsMovedOf (handle_ids x) j
  handle_from (handle.Own i) j h = id_from i j h
  handle_from (handle.Borrow i) j h = id_from i j h

  -- of two lists
  two_from : (xs ys us vs : List ℕ) (j : ℕ) → (Has us j → IsMovedOf xs j) → (Has vs j → IsMovedOf ys j) → Has (us ++ vs) j → IsMovedOf (xs ++ ys) j
  two_from xs ys us vs j left right h = elim (has_parts us vs j h) as (λ _. IsMovedOf (xs ++ ys) j) [
    | inl a ↦ (let r = left a in (r.0, has_was xs ys r.0 r.1, r.2))
    | inr b ↦ (let r = right b in (r.0, has_append xs ys r.0 r.1, r.2))
  ]

  pub row_from : {X : Type 0} (ids : X → List ℕ) (move : X → X) (each : (x : X) (j : ℕ) → Has (ids (move x)) j → IsMovedOf (ids x) j) (xs : List X) (j : ℕ) → Has (flat_map ids (map move xs)) j → IsMovedOf (flat_map ids xs) j
  row_from ids move each [] j h = absurd h
  row_from ids move each (x ∷ xs) j h = two_from (ids x) (flat_map ids xs) (ids (move x)) (flat_map ids (map move xs)) j (each x j) (row_from ids move each xs j) h

  pub kind_from : (k l : TypeDefKind) (j : ℕ) → IsMovedKind f k l → Has (kind_ids l) j → IsMovedOf (kind_ids k) j
  kind_from _ _ j (moved.moved_record r s e) h = row_from (λ (x : Field). ref_ids x.ty) (moved_field f) (λ x. ref_from x.ty) r.fields.items j (subst (λ (xs : List Field). Has (flat_map (λ (x : Field). ref_ids x.ty) xs) j) e h)
  kind_from _ _ j moved.moved_resource h = absurd h
  kind_from _ _ j (moved.moved_handle_kind x) h = handle_from x j h
  kind_from _ _ j (moved.moved_flags x) h = absurd h
  kind_from _ _ j (moved.moved_tuple t u e) h = row_from ref_ids (moved_ref f) ref_from t.types.items j (subst (λ (xs : List Ref). Has (flat_map ref_ids xs) j) e h)
  kind_from _ _ j (moved.moved_variant v w e) h = row_from (λ (x : Case). part_ids x.ty) (moved_case f) (λ x. part_from x.ty) v.cases.items j (subst (λ (xs : List Case). Has (flat_map (λ (x : Case). part_ids x.ty) xs) j) e h)
  kind_from _ _ j (moved.moved_enum x) h = absurd h
  kind_from _ _ j (moved.moved_option r) h = ref_from r j h
  kind_from _ _ j (moved.moved_result r) h = two_from (part_ids r.ok) (part_ids r.err) (part_ids (moved_part f r.ok)) (part_ids (moved_part f r.err)) j (part_from r.ok j) (part_from r.err j) h
  kind_from _ _ j (moved.moved_list r) h = ref_from r j h
  kind_from _ _ j (moved.moved_fixed_length_list r m) h = ref_from r j h
  kind_from _ _ j (moved.moved_future p) h = part_from p j h
  kind_from _ _ j (moved.moved_stream p) h = part_from p j h
  kind_from _ _ j (moved.moved_alias r) h = ref_from r j h
  kind_from _ _ j moved.moved_unknown h = absurd h

  resource_from : (k : FunctionKind) (j : ℕ) → Has (resource_ids (moved_function_kind f k)) j → IsMovedOf (resource_ids k) j
  resource_from of.Freestanding j h = absurd h
  resource_from of.AsyncFreestanding j h = absurd h
  resource_from (of.Method r) j h = id_from r j h
  resource_from (of.AsyncMethod r) j h = id_from r j h
  resource_from (of.Static r) j h = id_from r j h
  resource_from (of.AsyncStatic r) j h = id_from r j h
  resource_from (of.Constructor r) j h = id_from r j h

  signature_from : (a b : Function) (j : ℕ) → IsMovedFunction f a b → Has (signature_ids b) j → IsMovedOf (signature_ids a) j
  signature_from a b j is h =
      two_from (flat_map (λ (p : Param). ref_ids p.ty) a.params.items) (part_ids a.result) (flat_map (λ (p : Param). ref_ids p.ty) b.params.items) (part_ids b.result) j
      (λ g. row_from (λ (p : Param). ref_ids p.ty) (moved_param f) (λ p. ref_from p.ty) a.params.items j (subst (λ (ps : List Param). Has (flat_map (λ (p : Param). ref_ids p.ty) ps) j) is.params g))
      (λ g. part_from a.result j (subst (λ (p : Option Ref). Has (part_ids p) j) is.result g)) h

  pub function_from : (a b : Function) (j : ℕ) → IsMovedFunction f a b → Has (function_ids b) j → IsMovedOf (function_ids a) j
  function_from a b j is h =
      two_from (resource_ids a.kind) (signature_ids a) (resource_ids b.kind) (signature_ids b) j (λ g. resource_from a.kind j (subst (λ (k : FunctionKind). Has (resource_ids k) j) is.kind g)) (signature_from a b j is) h

-- ---- and where that stands

module _ (places : Places) where
  abbrev pub ArePlaced : List ℕ → Type 0
  ArePlaced ids = (i : ℕ) → Has ids i → is_placed places i ≡ true

  pub id_placed : (i : ℕ) → is_placed places i ≡ true → ArePlaced (i ∷ [])
  id_placed i p j h = elim h as (λ _. is_placed places j ≡ true) [ inl same ↦ subst (λ (n : ℕ). is_placed places n ≡ true) (sym same) p | inr none ↦ absurd none ]

  pub ref_placed : (r : Ref) → is_ref_placed places r ≡ true → ArePlaced (ref_ids r)
  ref_placed (ref.Id i) p j h = id_placed i p j h
  ref_placed _ p j h = absurd h

  pub part_placed : (r : Option Ref) → is_part_placed places r ≡ true → ArePlaced (part_ids r)
  part_placed None p j h = absurd h
  part_placed (Some r) p j h = ref_placed r p j h

  handle_placed : (x : Handle) → is_handle_placed places x ≡ true → ArePlaced (handle_ids x)
  handle_placed (handle.Own i) p j h = id_placed i p j h
  handle_placed (handle.Borrow i) p j h = id_placed i p j h

  two_placed : (xs ys : List ℕ) → ArePlaced xs → ArePlaced ys → ArePlaced (xs ++ ys)
  two_placed xs ys a b j h = elim (has_parts xs ys j h) as (λ _. is_placed places j ≡ true) [ inl l ↦ a j l | inr r ↦ b j r ]

  pub row_placed : {X : Type 0} (ids : X → List ℕ) (is_there : X → Bool) (each : (x : X) → is_there x ≡ true → ArePlaced (ids x)) (xs : List X) → list_all is_there xs ≡ true → ArePlaced (flat_map ids xs)
  row_placed ids is_there each [] p j h = absurd h
  row_placed ids is_there each (x ∷ xs) p j h = (let q = and_parts (is_there x) (list_all is_there xs) p in two_placed (ids x) (flat_map ids xs) (each x q.0) (row_placed ids is_there each xs q.1) j h)

  pub kind_placed : (k : TypeDefKind) → is_kind_placed places k ≡ true → ArePlaced (kind_ids k)
  kind_placed (kind.Record r) p j h = row_placed (λ (x : Field). ref_ids x.ty) (λ (x : Field). is_ref_placed places x.ty) (λ x. ref_placed x.ty) r.fields.items p j h
  kind_placed kind.Resource p j h = absurd h
  kind_placed (kind.Handle x) p j h = handle_placed x p j h
  kind_placed (kind.Flags x) p j h = absurd h
  kind_placed (kind.Tuple t) p j h = row_placed ref_ids (is_ref_placed places) ref_placed t.types.items p j h
  kind_placed (kind.Variant v) p j h = row_placed (λ (x : Case). part_ids x.ty) (λ (x : Case). is_part_placed places x.ty) (λ x. part_placed x.ty) v.cases.items p j h
  kind_placed (kind.Enum x) p j h = absurd h
  kind_placed (kind.Option r) p j h = ref_placed r p j h
  kind_placed (kind.Result r) p j h = (let q = and_parts (is_part_placed places r.ok) (is_part_placed places r.err) p in two_placed (part_ids r.ok) (part_ids r.err) (part_placed r.ok q.0) (part_placed r.err q.1) j h)
  kind_placed (kind.List r) p j h = ref_placed r p j h
  kind_placed (kind.FixedLengthList r n) p j h = ref_placed r p j h
  kind_placed (kind.Future r) p j h = part_placed r p j h
  kind_placed (kind.Stream r) p j h = part_placed r p j h
  kind_placed (kind.Alias r) p j h = ref_placed r p j h
  kind_placed kind.Unknown p j h = absurd h

  resource_placed : (k : FunctionKind) → is_resource_placed places (resource_of k) ≡ true → ArePlaced (resource_ids k)
  resource_placed of.Freestanding p j h = absurd h
  resource_placed of.AsyncFreestanding p j h = absurd h
  resource_placed (of.Method r) p j h = id_placed r p j h
  resource_placed (of.AsyncMethod r) p j h = id_placed r p j h
  resource_placed (of.Static r) p j h = id_placed r p j h
  resource_placed (of.AsyncStatic r) p j h = id_placed r p j h
  resource_placed (of.Constructor r) p j h = id_placed r p j h

  pub function_placed : (f : Function) → is_resource_placed places (resource_of f.kind) ≡ true → is_signature_placed places f.params.items f.result ≡ true → ArePlaced (function_ids f)
  function_placed f r s =
      let q = and_parts (list_all (λ (p : Param). is_ref_placed places p.ty) f.params.items) (is_part_placed places f.result) s in
      two_placed (resource_ids f.kind) (signature_ids f) (resource_placed f.kind r)
      (two_placed (flat_map (λ (p : Param). ref_ids p.ty) f.params.items) (part_ids f.result) (row_placed (λ (p : Param). ref_ids p.ty) (λ (p : Param). is_ref_placed places p.ty) (λ p. ref_placed p.ty) f.params.items q.0) (part_placed f.result q.1))
