-- Why types aren't written: by what they are made of, one by one, and in a list.
use Rattle.std.proofs.Common.{◌≡◌, ◌⊎◌, ◌<◌, ℕ, zero, suc, ◌+◌, List, [], ◌∷◌, ◌++◌, Any, Option, Some, None, Bool, true, false, map, length, take, drop, get_or, refl, sym, ap, subst, ◌∙◌, arith, inl, inr, append_assoc}
use Rattle.std.specs.Prelude.{slice_get, nat_eq, if◌then◌else◌, String, string_bytes}
use Rattle.std.specs.declared.alloc.Global.{Global}
use Rattle.std.proofs.lemmas.List.{take-append-drop}
use Rattle.std.proofs.lemmas.Bool.{cases_Bool, eq-eqb}
use Rattle.distinct_names.specs.Names.{is_new}
use Rattle.wit_types.specs.Passed.wit_order-Order.{Has}
use Rattle.wit_types.proofs.Passed.wit_order-Lists.{has_more}
use Rattle.wit_types.specs.declared.kind.«Type».{«Type» as Ref}
use Rattle.wit_types.specs.declared.kind.«Type».TheVariants as refs
use Rattle.wit_types.specs.declared.kind.TypeDefKind.{TypeDefKind}
use Rattle.wit_types.specs.declared.kind.TypeDefKind.TheVariants as kinds
use Rattle.wit_types.specs.declared.interface.TypeDef.{TypeDef}
use Rattle.type_writing.specs.declared.fault.Fault.{Fault}
use Rattle.type_writing.specs.declared.fault.Fault.TheVariants as faults
use Rattle.type_writing.specs.declared.fault.Fault.TheVariants.{NotYet}
use Rattle.type_writing.specs.Unfolding.{FormOf, form_of}
use Rattle.type_writing.specs.Writing.{Setting, names_of_types, IsRemembered, remembering}
use Rattle.type_writing.specs.Refusals.{IsCause, IsUnready, AreUnready, IsFormUnready, IsKindUnready, IsNamedUnready, IsDefUnready, IsTypeUnready, AreTypesUnready}
use Rattle.type_writing.proofs.Standing.{taken_next}

-- another reason of the same fault
pub cause_weaker : {A B F G : Type 0} → (A → B) → (F → G) → (e : Fault) → IsCause A F e → IsCause B G e
cause_weaker f g faults.NotYet h = f h
cause_weaker f g faults.TooLarge h = g h
cause_weaker f g faults.OutOfMemory h = h

-- ---- parts

any_mapped : {X Y : Type 0} (P : Y → Type 0) (f : X → Y) (xs : List X) (i : ℕ) (x : X) → i < length xs → x ≡ get_or xs i x → P (f x) → Any P (map f xs)
any_mapped P f [] i x lt is p = absurd (omega (arith, lt))
any_mapped P f (y ∷ xs) zero x lt is p = (zero, f y, omega arith, refl, subst P (ap f is) p)
any_mapped P f (y ∷ xs) (suc i) x lt is p = let (k, z, low, at, q) = any_mapped P f xs i x (omega (arith, lt)) is p in (suc k, z, omega (arith, low), at, q)

any_weaker : {X : Type 0} (P Q : X → Type 0) (xs : List X) → ((x : X) → P x → Q x) → Any P xs → Any Q xs
any_weaker P Q xs f h = let (i, x, lt, at, p) = h in (i, x, lt, at, f x p)

-- the part at a place isn't ready
pub part_cause : {X : Type 0} (ready : ℕ → Type 0) (f : X → Option Ref) (xs : List X) (i : ℕ) (x : X) (e : Fault) → i < length xs → x ≡ get_or xs i x → (e ≡ NotYet) × IsUnready ready (f x) → IsCause (AreUnready ready (map f xs)) ⊥ e
part_cause ready f xs i x e lt is h = subst (IsCause (AreUnready ready (map f xs)) ⊥) (sym h.0) (any_mapped (IsUnready ready) f xs i x lt is h.1)

-- or one behind the first
pub rest_cause : (ready : ℕ → Type 0) (p : Option Ref) (ps : List (Option Ref)) (e : Fault) → IsCause (AreUnready ready ps) ⊥ e → IsCause (AreUnready ready (p ∷ ps)) ⊥ e
rest_cause ready p ps = cause_weaker (λ h. let (k, z, low, at, q) = h in (suc k, z, omega (arith, low), at, q)) (λ h. h)

-- ---- what isn't ready where more is isn't where less is

module _ (ready less : ℕ → Type 0) (wider : (k : ℕ) → less k → ready k) where
  ref_less : (r : Option Ref) → IsUnready ready r → IsUnready less r
  ref_less None h = h
  ref_less (Some (refs.Id id)) h = λ q. h (wider id q)
  ref_less (Some refs.Bool) h = h
  ref_less (Some refs.U8) h = h
  ref_less (Some refs.U16) h = h
  ref_less (Some refs.U32) h = h
  ref_less (Some refs.U64) h = h
  ref_less (Some refs.S8) h = h
  ref_less (Some refs.S16) h = h
  ref_less (Some refs.S32) h = h
  ref_less (Some refs.S64) h = h
  ref_less (Some refs.F32) h = h
  ref_less (Some refs.F64) h = h
  ref_less (Some refs.Char) h = h
  ref_less (Some refs.String) h = h
  ref_less (Some refs.ErrorContext) h = h

  pub parts_less : (ps : List (Option Ref)) → AreUnready ready ps → AreUnready less ps
  parts_less ps h = any_weaker (IsUnready ready) (IsUnready less) ps ref_less h

  form_less : (f : Option FormOf) → IsFormUnready ready f → IsFormUnready less f
  form_less None h = h
  form_less (Some f) h = parts_less f.parts h

  kind_less : (k : TypeDefKind) → IsKindUnready ready k → IsKindUnready less k
  kind_less (kinds.Record r) h = form_less (form_of (kinds.Record r)) h
  kind_less kinds.Resource h = h
  kind_less (kinds.Handle x) h = h
  kind_less (kinds.Flags x) h = form_less (form_of (kinds.Flags x)) h
  kind_less (kinds.Tuple x) h = form_less (form_of (kinds.Tuple x)) h
  kind_less (kinds.Variant x) h = form_less (form_of (kinds.Variant x)) h
  kind_less (kinds.Enum x) h = form_less (form_of (kinds.Enum x)) h
  kind_less (kinds.Option x) h = form_less (form_of (kinds.Option x)) h
  kind_less (kinds.Result x) h = form_less (form_of (kinds.Result x)) h
  kind_less (kinds.List x) h = form_less (form_of (kinds.List x)) h
  kind_less (kinds.FixedLengthList x n) h = form_less (form_of (kinds.FixedLengthList x n)) h
  kind_less (kinds.Future x) h = h
  kind_less (kinds.Stream x) h = h
  kind_less (kinds.Alias r) h = ref_less (Some r) h
  kind_less kinds.Unknown h = h

  named_less : (own : Bool) (homes : ℕ → Option ℕ) (names : List (List ℕ)) (id : ℕ) (k : TypeDefKind) (x : List ℕ) → IsNamedUnready own homes ready names id k x → IsNamedUnready own homes less names id k x
  named_less true homes names id k x h = elim h as (λ _. IsNamedUnready true homes less names id k x) [ inl a ↦ inl (kind_less k a) | inr b ↦ inr b ]
  named_less false homes names id k x h = h

  def_less : (s : Setting) (names : List (List ℕ)) (id : ℕ) (d : TypeDef) (x : Option (String Global)) → IsDefUnready s ready names id d x → IsDefUnready s less names id d x
  def_less s names id d None h = kind_less d.kind h
  def_less s names id d (Some x) h = named_less (s.is_own d.owner) s.homes names id d.kind _ h

  pub type_less : (s : Setting) (names : List (List ℕ)) (types : List TypeDef) (id : ℕ) → IsTypeUnready s ready names types id → IsTypeUnready s less names types id
  type_less s names types id h = (h.0, h.1, def_less s names id h.0 h.0.name h.2)

-- ---- a type

module _ (s : Setting) (ready : ℕ → Type 0) (names : List (List ℕ)) (types : List TypeDef) (id : ℕ) (d : TypeDef) (at : slice_get types id ≡ Some d) where
  pub unnamed_cause : d.name ≡ None → IsKindUnready ready d.kind → IsTypeUnready s ready names types id
  unnamed_cause none h = (d, at, subst (IsDefUnready s ready names id d) (sym none) h)

  module _ (x : String Global) (is : d.name ≡ Some x) where
    named_cause : (own : Bool) → s.is_own d.owner ≡ own → IsNamedUnready own s.homes ready names id d.kind (string_bytes x) → IsTypeUnready s ready names types id
    named_cause own e h =
        let there : IsDefUnready s ready names id d (Some x) = subst (λ b. IsNamedUnready b s.homes ready names id d.kind (string_bytes x)) (sym e) h in
        (d, at, subst (IsDefUnready s ready names id d) (sym is) there)

    pub own_kind_cause : s.is_own d.owner ≡ true → IsKindUnready ready d.kind → IsTypeUnready s ready names types id
    own_kind_cause e h = named_cause true e (inl h)

    pub own_name_cause : s.is_own d.owner ≡ true → (n : List ℕ) → n ≡ string_bytes x → is_new names n ≡ false → IsTypeUnready s ready names types id
    own_name_cause e n same h = named_cause true e (inr (ap (is_new names) (sym same) ∙ h))

    pub elsewhere_cause : s.is_own d.owner ≡ false → s.homes id ≡ None → IsTypeUnready s ready names types id
    elsewhere_cause e h = named_cause false e h

-- ---- what is remembered

pub none_remembered : (table : ℕ → Option ℕ) (id : ℕ) → table id ≡ None → IsRemembered table id → ⊥
none_remembered table id e r = let k = r.1 in absurd cc

pub remembering_keeps : (table new : ℕ → Option ℕ) (id index : ℕ) → ((k : ℕ) → new k ≡ remembering table id index k) → (k : ℕ) → IsRemembered table k → IsRemembered new k
remembering_keeps table new id index e k r = elim (cases_Bool (nat_eq id k)) [
  | inl b ↦ (index, e k ∙ ap (λ (c : Bool). if c then Some index else table k) b)
  | inr b ↦ (r.0, e k ∙ ap (λ (c : Bool). if c then Some index else table k) b ∙ r.1)
]

pub remembering_here : (table new : ℕ → Option ℕ) (id index : ℕ) → ((k : ℕ) → new k ≡ remembering table id index k) → new id ≡ Some index
remembering_here table new id index e = e id ∙ ap (λ (b : Bool). if b then Some index else table id) (eq-eqb id id refl)

-- ---- types in a list

pub remembers_next : (ready old new : ℕ → Type 0) (ids : List ℕ) (i id : ℕ) → i < length ids → id ≡ get_or ids i id → ((k : ℕ) → ready k ⊎ Has (take i ids) k → old k) → ((k : ℕ) → old k → new k) → new id
    → (k : ℕ) → ready k ⊎ Has (take (i + 1) ids) k → new k
remembers_next ready old new ids i id lt here before on one k h = elim h as (λ _. new k) [
  | inl r ↦ on k (before k (inl r))
  | inr there ↦ elim (has_more (take i ids) id k (subst (λ l. Has l k) (sym (taken_next ids i id lt here)) there)) as (λ _. new k) [ inl same ↦ subst new (sym same) one | inr was ↦ on k (before k (inr was)) ]
]

pub types_cause : (s mid : Setting) (ready now : ℕ → Type 0) (names given : List (List ℕ)) (types : List TypeDef) (ids : List ℕ) (i id : ℕ) → i < length ids → id ≡ get_or ids i id
    → mid ≡ s → ((k : ℕ) → ready k ⊎ Has (take i ids) k → now k) → given ≡ names ++ names_of_types s types (take i ids)
    → IsTypeUnready mid now given types id → AreTypesUnready s ready names types ids
types_cause s mid ready now names given types ids i id lt here same wider all h = record {
  before = take i ids;
  id = id;
  behind = drop (i + 1) ids;
  are = sym (take-append-drop (i + 1) ids) ∙ ap (λ l. l ++ drop (i + 1) ids) (sym (taken_next ids i id lt here)) ∙ append_assoc (take i ids) (id ∷ []) (drop (i + 1) ids);
  unready = type_less now (λ k. ready k ⊎ Has (take i ids) k) wider s (names ++ names_of_types s types (take i ids)) types id (subst (λ l. IsTypeUnready s now l types id) all (subst (λ l. IsTypeUnready l now given types id) same h));
}

-- where more is ready
pub types_less : (s : Setting) (ready less : ℕ → Type 0) (names : List (List ℕ)) (types : List TypeDef) (ids : List ℕ) → ((k : ℕ) → less k → ready k) → AreTypesUnready s ready names types ids → AreTypesUnready s less names types ids
types_less s ready less names types ids wider h = record {
  before = h.before;
  id = h.id;
  behind = h.behind;
  are = h.are;
  unready = type_less (λ k. ready k ⊎ Has h.before k) (λ k. less k ⊎ Has h.before k) (λ k e. elim e as (λ _. ready k ⊎ Has h.before k) [ inl a ↦ inl (wider k a) | inr b ↦ inr b ]) s (names ++ names_of_types s types h.before) types h.id h.unready;
}
