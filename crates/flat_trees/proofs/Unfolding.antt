-- Types that may be linked have trees.
use Rattle.std.proofs.Common.{◌≡◌, ℕ, zero, suc, ◌<◌, Bool, true, false, ◌||◌, List, [], ◌∷◌, inl, inr, length, Option, Some, None, map, refl, subst, ap, ◌∙◌, arith}
use Rattle.std.proofs.lemmas.List.Folds.{flat_map-map}
use Rattle.std.specs.Prelude.{slice_get, flat_map, string_bytes, ◌==◌, if◌then◌else◌}
use Rattle.std.specs.List.{list_any}
use Rattle.linked_types.specs.Passed.wit_types-declared-kind-Type.{«Type» as Ref}
use Rattle.linked_types.specs.Passed.wit_types-declared-kind-Type-TheVariants as ref
use Rattle.linked_types.specs.Passed.wit_types-declared-kind-Case.{Case}
use Rattle.linked_types.specs.Passed.wit_types-declared-kind-Field.{Field}
use Rattle.linked_types.specs.Passed.wit_types-declared-kind-TypeDefKind.{TypeDefKind}
use Rattle.linked_types.specs.Passed.wit_types-declared-kind-TypeDefKind-TheVariants as kind
use Rattle.linked_types.specs.Passed.wit_types-declared-function-Function.{Function}
use Rattle.linked_types.specs.Passed.wit_types-declared-function-Param.{Param}
use Rattle.linked_types.specs.Passed.wit_types-declared-interface-TypeDef.{TypeDef}
use Rattle.wit_order.specs.Order.{Has}
use Rattle.wit_order.proofs.Lists.{has_was}
use Rattle.linked_types.specs.Passed.wit_reach-Ids.{ref_ids, part_ids, kind_ids, function_ids, resource_ids, signature_ids}
use Rattle.linked_types.specs.Passed.wit_reach-Paths.{Reaches}
use Rattle.linked_types.specs.Passed.wit_reach-Types.{IsMadeOf, AreTypesBackward}
use Rattle.linked_types.proofs.Passed.wit_reach-Lists.{has_append, has_parts}
use Rattle.flat_types.proofs.Signing.{any_of_map}
use Rattle.type_writing.specs.Passed.type_meaning-Tree.{Kind, Parts, of, none, gap, part}
use Rattle.type_writing.specs.Passed.type_meaning-Tree as trees
use Rattle.type_writing.specs.Passed.type_meaning-Syntax.{plain, labelled}
use Rattle.type_writing.specs.Unfolding.{OwnName, WitTree, FormOf, form_of, under_name, Unfolds, unfolds_primitive, unfolds_type, KindUnfolds, unfolds_form, unfolds_alias, PartsUnfold, no_parts, gap_unfolds, part_unfolds}
use Rattle.type_writing.specs.Functions.{function_form}
use Rattle.linked_types.specs.Kinds.{is_error_context, part_is, if_async, unless_empty, kind_fault}
use Rattle.linked_types.specs.Reached.{function_kind_fault, or_else, ids_of}
use Rattle.linked_types.specs.declared.fault.TypeFault.{TypeFault}
use Rattle.linked_types.specs.declared.fault.TypeFault.TheVariants.{AsyncReached, EmptyTypeReached}
use Rattle.flat_trees.specs.Law.{LinkedFunctionsUnfold}
use Rattle.flat_trees.proofs.Parts.{same_parts}

-- ---- tests

not_async : (b : Bool) → if_async b ≡ None → b ≡ false
not_async true h = absurd (let f : Some AsyncReached ≡ None = h in cc)
not_async false h = refl

or_left : (a b : Bool) → (a || b) ≡ false → a ≡ false
or_left true b h = h
or_left false b h = refl

or_right : (a b : Bool) → (a || b) ≡ false → b ≡ false
or_right true b h = absurd cc
or_right false b h = h

not_empty : (n : ℕ) (b : Bool) → unless_empty n b ≡ None → b ≡ false
not_empty n b h = by (n == 0) h
  where
    by : (z : Bool) → (if z then Some EmptyTypeReached else if_async b) ≡ None → b ≡ false
    by true h = absurd (let f : Some EmptyTypeReached ≡ None = h in cc)
    by false h = not_async b h

-- ---- parts

module _ (types : List TypeDef) where
  abbrev HasTree : ℕ → Type 0
  HasTree i = (t : WitTree) × Unfolds types (ref.Id i) t

  ref_unfolds : (r : Ref) → is_error_context r ≡ false → ((j : ℕ) → Has (ref_ids r) j → HasTree j) → (t : WitTree) × Unfolds types r t
  ref_unfolds (ref.Id i) clean has = has i (inl refl)
  ref_unfolds ref.Bool clean has = (of (plain trees.bool) none, unfolds_primitive ref.Bool trees.bool refl)
  ref_unfolds ref.U8 clean has = (of (plain trees.u8) none, unfolds_primitive ref.U8 trees.u8 refl)
  ref_unfolds ref.U16 clean has = (of (plain trees.u16) none, unfolds_primitive ref.U16 trees.u16 refl)
  ref_unfolds ref.U32 clean has = (of (plain trees.u32) none, unfolds_primitive ref.U32 trees.u32 refl)
  ref_unfolds ref.U64 clean has = (of (plain trees.u64) none, unfolds_primitive ref.U64 trees.u64 refl)
  ref_unfolds ref.S8 clean has = (of (plain trees.s8) none, unfolds_primitive ref.S8 trees.s8 refl)
  ref_unfolds ref.S16 clean has = (of (plain trees.s16) none, unfolds_primitive ref.S16 trees.s16 refl)
  ref_unfolds ref.S32 clean has = (of (plain trees.s32) none, unfolds_primitive ref.S32 trees.s32 refl)
  ref_unfolds ref.S64 clean has = (of (plain trees.s64) none, unfolds_primitive ref.S64 trees.s64 refl)
  ref_unfolds ref.F32 clean has = (of (plain trees.f32) none, unfolds_primitive ref.F32 trees.f32 refl)
  ref_unfolds ref.F64 clean has = (of (plain trees.f64) none, unfolds_primitive ref.F64 trees.f64 refl)
  ref_unfolds ref.Char clean has = (of (plain trees.char) none, unfolds_primitive ref.Char trees.char refl)
  ref_unfolds ref.String clean has = (of (plain trees.string) none, unfolds_primitive ref.String trees.string refl)
  ref_unfolds ref.ErrorContext clean has = absurd cc

  parts_unfold : (ps : List (Option Ref)) → list_any part_is ps ≡ false → ((j : ℕ) → Has (flat_map part_ids ps) j → HasTree j) → (ts : Parts OwnName OwnName) × PartsUnfold types ps ts
  parts_unfold [] clean has = (none, no_parts)
  parts_unfold (None ∷ ps) clean has = (let r = parts_unfold ps clean has in (gap r.0, gap_unfolds ps r.0 r.1))
  parts_unfold (Some r ∷ ps) clean has =
      let t = ref_unfolds r (or_left (is_error_context r) (list_any part_is ps) clean) (λ j h. has j (has_was (ref_ids r) (flat_map part_ids ps) j h)) in
      let ts = parts_unfold ps (or_right (is_error_context r) (list_any part_is ps) clean) (λ j h. has j (has_append (ref_ids r) (flat_map part_ids ps) j h)) in
      (part t.0 ts.0, part_unfolds r t.0 ps ts.0 t.1 ts.1)

  -- ---- kinds

  of_form : (k : TypeDefKind) (f : FormOf) → form_of k ≡ Some f → list_any part_is f.parts ≡ false → ((j : ℕ) → Has (kind_ids k) j → HasTree j) → (t : WitTree) × KindUnfolds types k t
  of_form k f is clean has =
      let ts = parts_unfold f.parts clean (λ j h. has j (subst (λ (l : List ℕ). Has l j) (same_parts k f is) h)) in
      (of f.form ts.0, unfolds_form k f ts.0 is ts.1)

  one_part : (r : Ref) → is_error_context r ≡ false → list_any part_is (Some r ∷ []) ≡ false
  one_part r clean = ap (λ (b : Bool). b || false) clean

  kind_unfolds : (k : TypeDefKind) → kind_fault k ≡ None → ((j : ℕ) → Has (kind_ids k) j → HasTree j) → (t : WitTree) × KindUnfolds types k t
  kind_unfolds (kind.Record r) ok has =
      of_form (kind.Record r) (record { form = labelled trees.record_kind (map (λ f. string_bytes f.name) r.fields.items); parts = map (λ f. Some f.ty) r.fields.items }) refl
      (any_of_map part_is (λ (f : Field). Some f.ty) r.fields.items ∙ not_empty (length r.fields.items) (list_any (λ (f : Field). is_error_context f.ty) r.fields.items) ok) has
  kind_unfolds kind.Resource ok has = absurd cc
  kind_unfolds (kind.Handle h) ok has = absurd cc
  kind_unfolds (kind.Flags x) ok has = of_form (kind.Flags x) (record { form = labelled trees.flags_kind (map (λ l. string_bytes l.name) x.flags.items); parts = [] }) refl refl has
  kind_unfolds (kind.Tuple t) ok has =
      of_form (kind.Tuple t) (record { form = plain trees.tuple_kind; parts = map (λ r. Some r) t.types.items }) refl
      (any_of_map part_is (λ (r : Ref). Some r) t.types.items ∙ not_empty (length t.types.items) (list_any is_error_context t.types.items) ok) has
  kind_unfolds (kind.Variant v) ok has =
      of_form (kind.Variant v) (record { form = labelled trees.variant_kind (map (λ c. string_bytes c.name) v.cases.items); parts = map (λ c. c.ty) v.cases.items }) refl
      (any_of_map part_is (λ (c : Case). c.ty) v.cases.items ∙ not_async (list_any (λ (c : Case). part_is c.ty) v.cases.items) ok) has
  kind_unfolds (kind.Enum x) ok has = of_form (kind.Enum x) (record { form = labelled trees.enum_kind (map (λ c. string_bytes c.name) x.cases.items); parts = [] }) refl refl has
  kind_unfolds (kind.Option r) ok has = of_form (kind.Option r) (record { form = plain trees.option_kind; parts = Some r ∷ [] }) refl (one_part r (not_async (is_error_context r) ok)) has
  kind_unfolds (kind.Result r) ok has =
      let clean : (part_is r.ok || part_is r.err) ≡ false = not_async (part_is r.ok || part_is r.err) ok in
      of_form (kind.Result r) (record { form = plain trees.result_kind; parts = r.ok ∷ r.err ∷ [] }) refl
      (ap (λ (b : Bool). b || (part_is r.err || false)) (or_left (part_is r.ok) (part_is r.err) clean) ∙ ap (λ (b : Bool). b || false) (or_right (part_is r.ok) (part_is r.err) clean)) has
  kind_unfolds (kind.List r) ok has = of_form (kind.List r) (record { form = plain trees.list_kind; parts = Some r ∷ [] }) refl (one_part r (not_async (is_error_context r) ok)) has
  kind_unfolds (kind.FixedLengthList r n) ok has =
      of_form (kind.FixedLengthList r n) (record { form = record { kind = trees.fixed_length_list_kind; labels = []; number = n }; parts = Some r ∷ [] }) refl (one_part r (not_async (is_error_context r) ok)) has
  kind_unfolds (kind.Future x) ok has = absurd cc
  kind_unfolds (kind.Stream x) ok has = absurd cc
  kind_unfolds (kind.Alias r) ok has = (let t = ref_unfolds r (not_async (is_error_context r) ok) has in (t.0, unfolds_alias r t.0 t.1))
  kind_unfolds kind.Unknown ok has = absurd cc

  -- ---- all that is reached

  module _ (backward : AreTypesBackward types) where
    -- of a type all that it is made of may be linked
    abbrev IsClean : ℕ → Type 0
    IsClean i = (k : ℕ) (d : TypeDef) → Reaches (IsMadeOf types) i k → slice_get types k ≡ Some d → kind_fault d.kind ≡ None

    type_at : (i : ℕ) → i < length types → (d : TypeDef) × (slice_get types i ≡ Some d)
    type_at i lt = got types i lt
      where
        got : (ds : List TypeDef) (i : ℕ) → i < length ds → (d : TypeDef) × (slice_get ds i ≡ Some d)
        got [] i lt = absurd (omega (arith, lt))
        got (d ∷ ds) zero lt = (d, refl)
        got (d ∷ ds) (suc i) lt = got ds i (omega (arith, lt))

    type_unfolds : (n i : ℕ) → i < n → i < length types → IsClean i → HasTree i
    type_unfolds zero i below lt clean = absurd (omega (arith, below))
    type_unfolds (suc n) i below lt clean =
        let d = type_at i lt in
        let part_unfolds_at : (j : ℕ) → Has (kind_ids d.0.kind) j → HasTree j =
        λ j h. (
        let made : IsMadeOf types i j = (d.0, d.1, h) in
        let less : j < i = backward i j made in
        type_unfolds n j (omega (arith, less, below)) (omega (arith, less, lt)) (λ k e r at. clean k e (j ∷ r.0, (made, r.1)) at)
        ) in
        let t = kind_unfolds d.0.kind (clean i d.0 ([], refl) d.1) part_unfolds_at in
        (under_name d.0.owner d.0.name t.0, unfolds_type i d.0 t.0 d.1 t.1)

-- ---- functions

is_freestanding : (o p : Option TypeFault) → or_else o p ≡ None → p ≡ None
is_freestanding None p h = h
is_freestanding (Some e) p h = absurd (let f : Some e ≡ None = h in cc)

params_ids : (ps : List Param) → flat_map part_ids (map (λ (p : Param). Some p.ty) ps) ≡ flat_map (λ (p : Param). ref_ids p.ty) ps
params_ids ps = flat_map-map part_ids (λ (p : Param). Some p.ty) ps

has_ids : (fs : List Function) (f : Function) (j : ℕ) → Has fs f → Has (function_ids f) j → Has (ids_of fs) j
has_ids [] f j h k = absurd h
has_ids (g ∷ fs) f j (inl e) h = has_was (function_ids g) (ids_of fs) j (subst (λ (x : Function). Has (function_ids x) j) e h)
has_ids (g ∷ fs) f j (inr h) k = has_append (function_ids g) (ids_of fs) j (has_ids fs f j h k)

pub linked_unfold : LinkedFunctionsUnfold
linked_unfold types fs f backward there linked has =
    let own = not_async (list_any (λ (p : Param). is_error_context p.ty) f.params.items || part_is f.result) (is_freestanding (function_kind_fault f.kind) (if_async (list_any (λ (p : Param). is_error_context p.ty) f.params.items || part_is f.result)) (linked.functions f has)) in
    let params = or_left (list_any (λ (p : Param). is_error_context p.ty) f.params.items) (part_is f.result) own in
    let result = or_right (list_any (λ (p : Param). is_error_context p.ty) f.params.items) (part_is f.result) own in
    let clean : list_any part_is (function_form f.params.items f.result).parts ≡ false = ap (λ (b : Bool). b || list_any part_is (map (λ (p : Param). Some p.ty) f.params.items)) result ∙ any_of_map part_is (λ (p : Param). Some p.ty) f.params.items ∙ params in
    let signature : (j : ℕ) → Has (signature_ids f) j → HasTree types j =
    λ j h. (
    let asked = has_ids fs f j has (has_append (resource_ids f.kind) (signature_ids f) j h) in
    let lt = there j asked in
    type_unfolds types backward (suc j) j (omega arith) lt (λ k d r at. linked.types_are k d (j, asked, r) at)
    ) in
    let parts = parts_unfold types (function_form f.params.items f.result).parts clean (λ j h. signature j (sides f j h)) in
    (of (function_form f.params.items f.result).form parts.0, record { parts = parts.0; unfolds = parts.1; is = refl })
  where
    sides : (f : Function) (j : ℕ) → Has (flat_map part_ids (function_form f.params.items f.result).parts) j → Has (signature_ids f) j
    sides f j h = elim (has_parts (part_ids f.result) (flat_map part_ids (map (λ (p : Param). Some p.ty) f.params.items)) j h) as (λ _. Has (signature_ids f) j) [
      | inl r ↦ has_append (flat_map (λ (p : Param). ref_ids p.ty) f.params.items) (part_ids f.result) j r
      | inr p ↦ has_was (flat_map (λ (p : Param). ref_ids p.ty) f.params.items) (part_ids f.result) j (subst (λ (l : List ℕ). Has l j) (params_ids f.params.items) p)
    ]
