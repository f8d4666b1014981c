-- What is cloned and moved is made of the types where they are moved.
use Rattle.std.proofs.Common.{◌≡◌, ℕ, List, [], ◌∷◌, ◌++◌, inl, inr, Option, Some, None, refl, sym, ap, ◌∙◌, map}
use Rattle.std.proofs.lemmas.List.{map-append}
use Rattle.std.proofs.lemmas.List.Folds.{flat_map-map}
use Rattle.std.specs.Prelude.{flat_map}
use Rattle.wit_arena.specs.Passed.wit_types-declared-kind-Type.{«Type» as Ref}
use Rattle.wit_arena.specs.Passed.wit_types-declared-kind-Type-TheVariants as ref
use Rattle.wit_arena.specs.Passed.wit_types-declared-kind-Handle.{Handle}
use Rattle.wit_arena.specs.Passed.wit_types-declared-kind-Handle-TheVariants as handle
use Rattle.wit_arena.specs.Passed.wit_types-declared-kind-Field.{Field}
use Rattle.wit_arena.specs.Passed.wit_types-declared-kind-Case.{Case}
use Rattle.wit_arena.specs.Passed.wit_types-declared-kind-TypeDefKind.{TypeDefKind}
use Rattle.wit_arena.specs.Passed.wit_types-declared-function-Param.{Param}
use Rattle.wit_arena.specs.Passed.wit_types-declared-function-Function.{Function}
use Rattle.wit_arena.specs.Passed.wit_types-declared-function-FunctionKind.{FunctionKind}
use Rattle.wit_arena.specs.Passed.wit_types-declared-function-FunctionKind-TheVariants as of
use Rattle.wit_arena.specs.Passed.wit_types-declared-world-WorldItem.{WorldItem}
use Rattle.wit_arena.specs.Passed.wit_order-Order.{Has}
use Rattle.wit_includes.specs.Passed.wit_reach-Ids.{ref_ids, part_ids, handle_ids, kind_ids, resource_ids, signature_ids, function_ids, item_ids}
use Rattle.wit_includes.specs.Passed.wit_moves-Moved as moved
use Rattle.wit_includes.specs.Passed.wit_moves-Moved.{moved_ref, moved_part, moved_field, moved_case, moved_param, moved_handle, moved_function_kind, IsMovedKind, IsMovedFunction}
use Rattle.wit_includes.specs.Passed.wit_moves-Worlds as worlds
use Rattle.wit_includes.specs.Passed.wit_moves-Worlds.{IsMovedItem}
use Rattle.wit_includes.specs.Passed.wit_copies-Same as copy
use Rattle.wit_includes.specs.Passed.wit_copies-Same.{IsSameKind, IsSameFunction, IsSameItem}
use Rattle.wit_copied_trees.proofs.Clones.{field_parts, case_parts, param_parts, type_parts}

pub has_moved : (f : ℕ → ℕ) (xs : List ℕ) (j : ℕ) → Has (map f xs) j → (i : ℕ) × Has xs i × (j ≡ f i)
has_moved f [] j h = absurd h
has_moved f (x ∷ xs) j h =
    elim h as (λ _. (i : ℕ) × Has (x ∷ xs) i × (j ≡ f i)) [
      | inl here ↦ (x, inl refl, here)
      | inr later ↦ (let r = has_moved f xs j later in (r.0, inr r.1, r.2))
    ]

module _ (f : ℕ → ℕ) where
  two_moved : (xs ys us vs : List ℕ) → us ≡ map f xs → vs ≡ map f ys → us ++ vs ≡ map f (xs ++ ys)
  two_moved xs ys us vs d e = (let m = map-append f xs ys in cc)

  ref_moved : (r : Ref) → ref_ids (moved_ref f r) ≡ map f (ref_ids r)
  ref_moved (ref.Id i) = refl
  ref_moved ref.Bool = refl
  ref_moved ref.U8 = refl
  ref_moved ref.U16 = refl
  ref_moved ref.U32 = refl
  ref_moved ref.U64 = refl
  ref_moved ref.S8 = refl
  ref_moved ref.S16 = refl
  ref_moved ref.S32 = refl
  ref_moved ref.S64 = refl
  ref_moved ref.F32 = refl
  ref_moved ref.F64 = refl
  ref_moved ref.Char = refl
  ref_moved ref.String = refl
  ref_moved ref.ErrorContext = refl

  part_moved : (p : Option Ref) → part_ids (moved_part f p) ≡ map f (part_ids p)
  part_moved None = refl
  part_moved (Some r) = ref_moved r

  parts_moved : (ps : List (Option Ref)) → flat_map part_ids (map (moved_part f) ps) ≡ map f (flat_map part_ids ps)
  parts_moved [] = refl
  parts_moved (p ∷ ps) = two_moved (part_ids p) (flat_map part_ids ps) (part_ids (moved_part f p)) (flat_map part_ids (map (moved_part f) ps)) (part_moved p) (parts_moved ps)

  -- a row of parts, by what each is of
  row_moved : {X : Type 0} (g : X → Option Ref) (xs ys : List X) → map g ys ≡ map (moved_part f) (map g xs) → flat_map (λ (x : X). part_ids (g x)) ys ≡ map f (flat_map (λ (x : X). part_ids (g x)) xs)
  row_moved {X} g xs ys e = sym (flat_map-map part_ids g ys) ∙ ap (flat_map part_ids) e ∙ parts_moved (map g xs) ∙ ap (map f) (flat_map-map part_ids g xs)

  handle_moved : (h : Handle) → handle_ids (moved_handle f h) ≡ map f (handle_ids h)
  handle_moved (handle.Own i) = refl
  handle_moved (handle.Borrow i) = refl

  pub kind_moved : (k m l : TypeDefKind) → IsSameKind k m → IsMovedKind f m l → kind_ids l ≡ map f (kind_ids k)
  kind_moved _ _ _ (copy.same_record r s same) (moved.moved_record _ q e) =
      row_moved (λ (x : Field). Some x.ty) r.fields.items q.fields.items (ap (map (λ (x : Field). Some x.ty)) e ∙ field_parts f r.fields.items s.fields.items same)
  kind_moved _ _ _ copy.same_resource moved.moved_resource = refl
  kind_moved _ _ _ (copy.same_handle h) (moved.moved_handle_kind _) = handle_moved h
  kind_moved _ _ _ (copy.same_flags x y same) (moved.moved_flags _) = refl
  kind_moved _ _ _ (copy.same_tuple x y same) (moved.moved_tuple _ z e) =
      row_moved (λ (r : Ref). Some r) x.types.items z.types.items (ap (map (λ (r : Ref). Some r)) (e ∙ ap (map (moved_ref f)) same) ∙ type_parts f x.types.items)
  kind_moved _ _ _ (copy.same_variant x y same) (moved.moved_variant _ z e) =
      row_moved (λ (c : Case). c.ty) x.cases.items z.cases.items (ap (map (λ (c : Case). c.ty)) e ∙ case_parts f x.cases.items y.cases.items same)
  kind_moved _ _ _ (copy.same_enum x y same) (moved.moved_enum _) = refl
  kind_moved _ _ _ (copy.same_option r) (moved.moved_option _) = ref_moved r
  kind_moved _ _ _ (copy.same_result r) (moved.moved_result _) = two_moved (part_ids r.ok) (part_ids r.err) (part_ids (moved_part f r.ok)) (part_ids (moved_part f r.err)) (part_moved r.ok) (part_moved r.err)
  kind_moved _ _ _ (copy.same_list r) (moved.moved_list _) = ref_moved r
  kind_moved _ _ _ (copy.same_fixed_length_list r n) (moved.moved_fixed_length_list _ _) = ref_moved r
  kind_moved _ _ _ (copy.same_future p) (moved.moved_future _) = part_moved p
  kind_moved _ _ _ (copy.same_stream p) (moved.moved_stream _) = part_moved p
  kind_moved _ _ _ (copy.same_alias r) (moved.moved_alias _) = ref_moved r
  kind_moved _ _ _ copy.same_unknown_kind moved.moved_unknown = refl

  -- ---- items

  resource_moved : (k : FunctionKind) → resource_ids (moved_function_kind f k) ≡ map f (resource_ids k)
  resource_moved of.Freestanding = refl
  resource_moved of.AsyncFreestanding = refl
  resource_moved (of.Method r) = refl
  resource_moved (of.AsyncMethod r) = refl
  resource_moved (of.Static r) = refl
  resource_moved (of.AsyncStatic r) = refl
  resource_moved (of.Constructor r) = refl

  function_moved : (a b c : Function) → IsSameFunction a b → IsMovedFunction f b c → function_ids c ≡ map f (function_ids a)
  function_moved a b c same to =
      let of_params = row_moved (λ (p : Param). Some p.ty) a.params.items c.params.items (ap (map (λ (p : Param). Some p.ty)) to.params ∙ param_parts f a.params.items b.params.items same.params) in
      let of_result = ap part_ids (to.result ∙ ap (moved_part f) same.result) ∙ part_moved a.result in
      let of_kind = ap resource_ids (to.kind ∙ ap (moved_function_kind f) same.kind) ∙ resource_moved a.kind in
      two_moved (resource_ids a.kind) (signature_ids a) (resource_ids c.kind) (signature_ids c) of_kind
      (two_moved (flat_map (λ (p : Param). ref_ids p.ty) a.params.items) (part_ids a.result) (flat_map (λ (p : Param). ref_ids p.ty) c.params.items) (part_ids c.result) of_params of_result)

  pub item_moved : (x y z : WorldItem) → IsSameItem x y → IsMovedItem f (λ (i : ℕ). i) y z → item_ids z ≡ map f (item_ids x)
  item_moved _ _ _ (copy.same_interface id s t span q) (worlds.moved_interface _ _ _) = refl
  item_moved _ _ _ (copy.same_function a b same) (worlds.moved_function _ c to) = function_moved a b c same to
  item_moved _ _ _ (copy.same_type id span) (worlds.moved_type _ _) = refl
