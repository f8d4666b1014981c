-- Why types aren't written.
use Rattle.std.specs.Prelude.{◌≡◌, ◌⊎◌, ℕ, List, ◌∷◌, ◌++◌, Option, None, Some, Any, slice_get, Bool, true, false, String, string_bytes}
use Rattle.std.specs.declared.alloc.Global.{Global}
use Rattle.distinct_names.specs.Names.{is_new}
use Rattle.wit_types.specs.Passed.wit_order-Order.{Has}
use Rattle.wit_types.specs.declared.kind.«Type».{«Type» as Ref}
use Rattle.wit_types.specs.declared.kind.«Type».TheVariants as refs
use Rattle.wit_types.specs.declared.kind.TypeDefKind.{TypeDefKind}
use Rattle.wit_types.specs.declared.kind.TypeDefKind.TheVariants as kinds
use Rattle.wit_types.specs.declared.interface.TypeDef.{TypeDef}
use Rattle.type_writing.specs.Unfolding.{FormOf, form_of}
use Rattle.type_writing.specs.Writing.{Setting, names_of_types}
use Rattle.type_writing.specs.declared.fault.Fault.{Fault}
use Rattle.type_writing.specs.declared.fault.Fault.TheVariants as faults

-- there is something that isn't written yet, 32 bits can't say one more index, or memory is wanting
abbrev pub IsCause : Type 0 → Type 0 → Fault → Type 0
IsCause unready full faults.NotYet = unready
IsCause unready full faults.TooLarge = full
IsCause unready full faults.OutOfMemory = Unit {0}

-- ---- what types are made of

-- it isn't among those that are ready, and has an id or is one that is never written
abbrev pub IsUnready : (ℕ → Type 0) → Option Ref → Type 0
IsUnready ready (Some (refs.Id id)) = ready id → ⊥
IsUnready ready (Some refs.ErrorContext) = Unit {0}
IsUnready ready _ = ⊥

-- one of these isn't
abbrev pub AreUnready : (ℕ → Type 0) → List (Option Ref) → Type 0
AreUnready ready parts = Any (IsUnready ready) parts

-- it has no form that is written, or one of its parts isn't ready
abbrev pub IsFormUnready : (ℕ → Type 0) → Option FormOf → Type 0
IsFormUnready ready None = Unit {0}
IsFormUnready ready (Some f) = AreUnready ready f.parts

-- the form of a kind without labels
abbrev pub unlabelled_form : TypeDefKind → Option FormOf
unlabelled_form (kinds.Option r) = form_of (kinds.Option r)
unlabelled_form (kinds.Result r) = form_of (kinds.Result r)
unlabelled_form (kinds.List r) = form_of (kinds.List r)
unlabelled_form (kinds.FixedLengthList r n) = form_of (kinds.FixedLengthList r n)
unlabelled_form _ = None

-- another name of a type, or a form
abbrev pub IsKindUnready : (ℕ → Type 0) → TypeDefKind → Type 0
IsKindUnready ready (kinds.Alias r) = IsUnready ready (Some r)
IsKindUnready ready k = IsFormUnready ready (form_of k)

-- ---- types

-- a type that is given its name here: it isn't ready, or the name is there already; one of others: no instance has it
abbrev pub IsNamedUnready : Bool → (ℕ → Option ℕ) → (ℕ → Type 0) → List (List ℕ) → ℕ → TypeDefKind → List ℕ → Type 0
IsNamedUnready true homes ready names id k x = IsKindUnready ready k ⊎ (is_new names x ≡ false)
IsNamedUnready false homes ready names id k x = homes id ≡ None

abbrev pub IsDefUnready : Setting → (ℕ → Type 0) → List (List ℕ) → ℕ → TypeDef → Option (String Global) → Type 0
IsDefUnready s ready names id d None = IsKindUnready ready d.kind
IsDefUnready s ready names id d (Some x) = IsNamedUnready (s.is_own d.owner) s.homes ready names id d.kind (string_bytes x)

-- where these are ready, and these names are given
abbrev pub IsTypeUnready : Setting → (ℕ → Type 0) → List (List ℕ) → List TypeDef → ℕ → Type 0
IsTypeUnready s ready names types id = (d : TypeDef) × (slice_get types id ≡ Some d) × IsDefUnready s ready names id d d.name

-- one of these types, behind those before it
pub record AreTypesUnready (s : Setting) (ready : ℕ → Type 0) (names : List (List ℕ)) (types : List TypeDef) (ids : List ℕ) : Type 0 where
  pub before : List ℕ
  pub id : ℕ
  pub behind : List ℕ
  pub are : ids ≡ before ++ id ∷ behind
  pub unready : IsTypeUnready s (λ k. ready k ⊎ Has before k) (names ++ names_of_types s types before) types id
