-- Where nothing stands in the way, nothing is unready.
use Rattle.std.proofs.Common.{◌≡◌, ◌⊎◌, ℕ, zero, suc, List, [], ◌∷◌, ◌++◌, Any, map, Option, Some, None, true, false, refl, sym, ap, subst, ◌∙◌, arith, append_assoc, inl, inr}
use Rattle.std.specs.Prelude.{flat_map, slice_get, String, string_bytes}
use Rattle.std.specs.declared.alloc.Global.{Global}
use Rattle.std.proofs.lemmas.List.{append-nil, map-append}
use Rattle.std.proofs.lemmas.List.Folds.{flat_map-map}
use Rattle.std.proofs.lemmas.Grind.{flat_map-append}
use Rattle.std.proofs.lemmas.Bool.{cases_Bool}
use Rattle.distinct_names.specs.Names.{is_new}
use Rattle.wit_order.specs.Order.{Has}
use Rattle.wit_types.specs.declared.kind.«Type».{«Type» as Ref}
use Rattle.wit_types.specs.declared.kind.«Type».TheVariants as refs
use Rattle.wit_types.specs.declared.kind.TypeDefKind.{TypeDefKind}
use Rattle.wit_types.specs.declared.kind.TypeDefKind.TheVariants as kinds
use Rattle.wit_types.specs.declared.kind.Field.{Field}
use Rattle.wit_types.specs.declared.kind.Case.{Case}
use Rattle.wit_types.specs.declared.function.Param.{Param}
use Rattle.wit_types.specs.declared.function.Function.{Function}
use Rattle.wit_types.specs.declared.interface.TypeDef.{TypeDef}
use Rattle.wit_order.proofs.Lists.{has_was}
use Rattle.wit_reach.proofs.Lists.{has_parts, has_append}
use Rattle.wit_reach.specs.Ids.{ref_ids, part_ids, kind_ids, signature_ids}
use Rattle.type_sinks.specs.Passed.type_writing-Functions.{function_form}
use Rattle.type_sinks.specs.Passed.type_writing-Writing.{Setting, name_of, name_given, names_of_types}
use Rattle.type_sinks.specs.Passed.type_writing-Refusals.{IsUnready as IsPartUnready, AreUnready, IsKindUnready, IsNamedUnready, IsDefUnready, AreTypesUnready}
use Rattle.type_sinks.specs.declared.root.Root.{Root}
use Rattle.component_imports.specs.Functions.{function_names, AreFunctionsUnready}
use Rattle.type_sinks.specs.Views.{setting_over}
use Rattle.component_imports.specs.Interface.{AreItemsUnready, IsUnready}
use Rattle.component_imports.specs.Ready.{IsWrittenHere, AreReady, IsReady}

abbrev pub All : ℕ → Type 0
All i = Unit {0}

-- ---- parts that aren't ready

-- a part that isn't ready has an id that isn't, unless it's never written
part_id : (ready : ℕ → Type 0) (p : Option Ref) → IsPartUnready ready p → (IsPartUnready All p → ⊥) → (k : ℕ) × Has (part_ids p) k × (ready k → ⊥)
part_id ready None h never = absurd h
part_id ready (Some (refs.Id id)) h never = (id, inl refl, h)
part_id ready (Some refs.Bool) h never = absurd h
part_id ready (Some refs.U8) h never = absurd h
part_id ready (Some refs.U16) h never = absurd h
part_id ready (Some refs.U32) h never = absurd h
part_id ready (Some refs.U64) h never = absurd h
part_id ready (Some refs.S8) h never = absurd h
part_id ready (Some refs.S16) h never = absurd h
part_id ready (Some refs.S32) h never = absurd h
part_id ready (Some refs.S64) h never = absurd h
part_id ready (Some refs.F32) h never = absurd h
part_id ready (Some refs.F64) h never = absurd h
part_id ready (Some refs.Char) h never = absurd h
part_id ready (Some refs.String) h never = absurd h
part_id ready (Some refs.ErrorContext) h never = absurd (never tt)

any_split : {X : Type 0} (P : X → Type 0) (x : X) (xs : List X) → Any P (x ∷ xs) → P x ⊎ Any P xs
any_split P x xs (zero, q, lt, at, u) = inl (subst P (sym at) u)
any_split P x xs (suc i, q, lt, at, u) = inr (i, q, omega (arith, lt), at, u)

any_first : {X : Type 0} (P : X → Type 0) (x : X) (xs : List X) → P x → Any P (x ∷ xs)
any_first P x xs p = (zero, x, omega arith, refl, p)

any_rest : {X : Type 0} (P : X → Type 0) (x : X) (xs : List X) → Any P xs → Any P (x ∷ xs)
any_rest P x xs k = let (i, q, lt, at, u) = k in (suc i, q, omega (arith, lt), at, u)

parts_id : (ready : ℕ → Type 0) (ps : List (Option Ref)) → AreUnready ready ps → (AreUnready All ps → ⊥) → (k : ℕ) × Has (flat_map part_ids ps) k × (ready k → ⊥)
parts_id ready [] h never = let (i, p, lt, at, u) = h in absurd (omega (arith, lt))
parts_id ready (p ∷ ps) h never = elim (any_split (IsPartUnready ready) p ps h) as (λ _. (k : ℕ) × Has (flat_map part_ids (p ∷ ps)) k × (ready k → ⊥)) [
  | inl u ↦
      let one = part_id ready p u (λ n. never (any_first (IsPartUnready All) p ps n)) in
      (one.0, has_was (part_ids p) (flat_map part_ids ps) one.0 one.1, one.2)
  | inr m ↦
      let more = parts_id ready ps m (λ n. never (any_rest (IsPartUnready All) p ps n)) in
      (more.0, has_append (part_ids p) (flat_map part_ids ps) more.0 more.1, more.2)
]

-- of these ids one isn't ready
abbrev pub OneUnready : (ℕ → Type 0) → List ℕ → Type 0
OneUnready ready ids = (k : ℕ) × Has ids k × (ready k → ⊥)

one_of : (ready : ℕ → Type 0) (xs ys : List ℕ) → xs ≡ ys → OneUnready ready xs → OneUnready ready ys
one_of ready xs ys e h = subst (OneUnready ready) e h

kind_id : (ready : ℕ → Type 0) (k : TypeDefKind) → IsKindUnready ready k → (IsKindUnready All k → ⊥) → OneUnready ready (kind_ids k)
kind_id ready (kinds.Record r) h never = one_of ready _ _ (flat_map-map part_ids (λ (f : Field). Some f.ty) r.fields.items) (parts_id ready (map (λ (f : Field). Some f.ty) r.fields.items) h never)
kind_id ready kinds.Resource h never = absurd (never tt)
kind_id ready (kinds.Handle x) h never = absurd (never tt)
kind_id ready (kinds.Flags x) h never = parts_id ready [] h never
kind_id ready (kinds.Tuple t) h never = one_of ready _ _ (flat_map-map part_ids (λ (r : Ref). Some r) t.types.items) (parts_id ready (map (λ (r : Ref). Some r) t.types.items) h never)
kind_id ready (kinds.Variant v) h never = one_of ready _ _ (flat_map-map part_ids (λ (c : Case). c.ty) v.cases.items) (parts_id ready (map (λ (c : Case). c.ty) v.cases.items) h never)
kind_id ready (kinds.Enum x) h never = parts_id ready [] h never
kind_id ready (kinds.Option r) h never = one_of ready _ _ (append-nil (ref_ids r)) (parts_id ready (Some r ∷ []) h never)
kind_id ready (kinds.Result r) h never = one_of ready _ _ (ap (λ l. part_ids r.ok ++ l) (append-nil (part_ids r.err))) (parts_id ready (r.ok ∷ r.err ∷ []) h never)
kind_id ready (kinds.List r) h never = one_of ready _ _ (append-nil (ref_ids r)) (parts_id ready (Some r ∷ []) h never)
kind_id ready (kinds.FixedLengthList r n) h never = one_of ready _ _ (append-nil (ref_ids r)) (parts_id ready (Some r ∷ []) h never)
kind_id ready (kinds.Future x) h never = absurd (never tt)
kind_id ready (kinds.Stream x) h never = absurd (never tt)
kind_id ready (kinds.Alias r) h never = part_id ready (Some r) h never
kind_id ready kinds.Unknown h never = absurd (never tt)

pub signature_id : (ready : ℕ → Type 0) (f : Function) → AreUnready ready (function_form f.params.items f.result).parts → (AreUnready All (function_form f.params.items f.result).parts → ⊥) → OneUnready ready (signature_ids f)
signature_id ready f h never =
    let ps = map (λ (p : Param). Some p.ty) f.params.items in
    let one = parts_id ready (f.result ∷ ps) h never in
    let e = flat_map-map part_ids (λ (p : Param). Some p.ty) f.params.items in (
      one.0,
      elim (has_parts (part_ids f.result) (flat_map part_ids ps) one.0 one.1) as (λ _. Has (signature_ids f) one.0) [
        | inl a ↦ has_append (flat_map (λ (p : Param). ref_ids p.ty) f.params.items) (part_ids f.result) one.0 a
        | inr b ↦ has_was (flat_map (λ (p : Param). ref_ids p.ty) f.params.items) (part_ids f.result) one.0 (subst (λ l. Has l one.0) e b)
      ],
      one.2,
    )

-- ---- types

module _ (s : Setting) (given : List (List ℕ)) (now : ℕ → Type 0) (types : List TypeDef) (ids : List ℕ) (functions : List Function) (ready : AreReady s given types ids functions) where
  in_list : (before : List ℕ) (i : ℕ) (behind : List ℕ) → ids ≡ before ++ i ∷ behind → Has ids i
  in_list before i behind e = subst (λ l. Has l i) (sym e) (has_append before (i ∷ behind) i (inl refl))

  kind_ready : (before : List ℕ) (i : ℕ) (behind : List ℕ) (d : TypeDef) → ids ≡ before ++ i ∷ behind → slice_get types i ≡ Some d → IsWrittenHere s d → IsKindUnready (λ k. now k ⊎ Has before k) d.kind → ⊥
  kind_ready before i behind d are at here h =
      let one = kind_id (λ k. now k ⊎ Has before k) d.kind h (ready.kinds i d (in_list before i behind are) at here) in
      one.2 (inr (ready.parts before i behind d one.0 are at here one.1))

  not_again : (before : List (List ℕ)) (x : List ℕ) (behind : List (List ℕ)) → given ++ (names_of_types s types ids ++ function_names functions) ≡ before ++ x ∷ behind → is_new before x ≡ false → ⊥
  not_again before x behind e h = let k : true ≡ false = sym (ready.distinct before x behind e) ∙ h in absurd cc

  name_there : (before : List ℕ) (i : ℕ) (behind : List ℕ) (d : TypeDef) (x : String Global) → ids ≡ before ++ i ∷ behind → slice_get types i ≡ Some d → d.name ≡ Some x → s.is_own d.owner ≡ true
      → given ++ (names_of_types s types ids ++ function_names functions) ≡ (given ++ names_of_types s types before) ++ string_bytes x ∷ (names_of_types s types behind ++ function_names functions)
  name_there before i behind d x are at named owned =
      let f : ℕ → List (List ℕ) = λ k. name_of s (slice_get types k) in
      let one : f i ≡ string_bytes x ∷ [] = ap (name_of s) at ∙ ap (λ b. name_given b d.name) owned ∙ ap (name_given true) named in
      let all : names_of_types s types ids ++ function_names functions ≡ flat_map f before ++ string_bytes x ∷ (flat_map f behind ++ function_names functions) =
      ap (λ l. names_of_types s types l ++ function_names functions) are
      ∙ ap (λ l. l ++ function_names functions) (flat_map-append f before (i ∷ behind) ∙ ap (λ l. flat_map f before ++ (l ++ flat_map f behind)) one)
      ∙ append_assoc (flat_map f before) (string_bytes x ∷ flat_map f behind) (function_names functions) in
      ap (λ l. given ++ l) all ∙ sym (append_assoc given (flat_map f before) (string_bytes x ∷ (flat_map f behind ++ function_names functions)))

  def_ready : (before : List ℕ) (i : ℕ) (behind : List ℕ) (d : TypeDef) → ids ≡ before ++ i ∷ behind → slice_get types i ≡ Some d → (x : Option (String Global)) → d.name ≡ x
      → IsDefUnready s (λ k. now k ⊎ Has before k) (given ++ names_of_types s types before) i d x → ⊥
  def_ready before i behind d are at None named h = kind_ready before i behind d are at (inl named) h
  def_ready before i behind d are at (Some x) named h = elim (cases_Bool (s.is_own d.owner)) [
    | inl b ↦
        let k : IsNamedUnready true s.homes (λ k. now k ⊎ Has before k) (given ++ names_of_types s types before) i d.kind (string_bytes x) = subst (λ c. IsNamedUnready c s.homes (λ k. now k ⊎ Has before k) (given ++ names_of_types s types before) i d.kind (string_bytes x)) b h in
        elim k as (λ _. ⊥) [
          | inl u ↦ kind_ready before i behind d are at (inr b) u
          | inr n ↦ not_again (given ++ names_of_types s types before) (string_bytes x) (names_of_types s types behind ++ function_names functions) (name_there before i behind d x are at named b) n
        ]
    | inr b ↦
        let k : IsNamedUnready false s.homes (λ k. now k ⊎ Has before k) (given ++ names_of_types s types before) i d.kind (string_bytes x) = subst (λ c. IsNamedUnready c s.homes (λ k. now k ⊎ Has before k) (given ++ names_of_types s types before) i d.kind (string_bytes x)) b h in
        let home = ready.foreign i d x (in_list before i behind are) at named b in
        let both : Some home.0 ≡ None = sym home.1 ∙ k in
        absurd cc
  ]

  types_ready : AreTypesUnready s now given types ids → ⊥
  types_ready h = def_ready h.before h.id h.behind h.unready.0 h.are h.unready.1 h.unready.0.name refl h.unready.2

  -- ---- functions

  function_in : (before : List Function) (f : Function) (behind : List Function) → functions ≡ before ++ f ∷ behind → Has functions f
  function_in before f behind e = subst (λ l. Has l f) (sym e) (there before)
    where
      there : (bs : List Function) → Has (bs ++ f ∷ behind) f
      there [] = inl refl
      there (b ∷ bs) = inr (there bs)

  functions_ready : AreFunctionsUnready (λ id. now id ⊎ Has ids id) (given ++ names_of_types s types ids) functions → ⊥
  functions_ready h =
      let f = h.function in
      let names = given ++ names_of_types s types ids in
      let f_in = function_in h.before f h.behind h.are in
      elim h.unready as (λ _. ⊥) [
        | inl u ↦ let one = signature_id (λ id. now id ⊎ Has ids id) f u (ready.written f f_in) in one.2 (inr (ready.over f one.0 f_in one.1))
        | inr n ↦
            let all : given ++ (names_of_types s types ids ++ function_names functions) ≡ (names ++ function_names h.before) ++ string_bytes f.name ∷ function_names h.behind =
            sym (append_assoc given (names_of_types s types ids) (function_names functions)) ∙ ap (λ l. names ++ function_names l) h.are ∙ ap (λ l. names ++ l) (map-append (λ (g : Function). string_bytes g.name) h.before (f ∷ h.behind))
            ∙ sym (append_assoc names (function_names h.before) (string_bytes f.name ∷ function_names h.behind)) in
            not_again (names ++ function_names h.before) (string_bytes f.name) (function_names h.behind) all n
      ]

  pub items_ready : AreItemsUnready s now given types ids functions → ⊥
  items_ready h = elim h as (λ _. ⊥) [ inl a ↦ types_ready a | inr b ↦ functions_ready b ]

pub ready_imported : (r : Root) (types : List TypeDef) (own : ℕ) (ids : List ℕ) (functions : List Function) → IsReady r types own ids functions → IsUnready r types own ids functions → ⊥
ready_imported r types own ids functions ready h = elim h as (λ _. ⊥) [
  | inl items ↦ items_ready (setting_over r own) [] (λ _. ⊥) types ids functions ready.items items
  | inr not ↦ elim not as (λ _. ⊥) [
    | inl low ↦ (let k = ready.named in absurd (omega (arith, k, low)))
    | inr n ↦ (let k : true ≡ false = sym ready.new ∙ n in absurd cc)
  ]
]
