-- What stands in another arena, with its ids moved there.
use Rattle.std.specs.Prelude.{◌≡◌, ℕ, Bool, true, ◌&&◌, List, Option, Some, None, map, option_map, unwrap_or, is_some, slice_get}
use Rattle.std.specs.List.{list_all}
use Rattle.wit_features.specs.Passed.wit_types-declared-kind-Type.{«Type» as Ref}
use Rattle.wit_features.specs.Passed.wit_types-declared-kind-Type-TheVariants as ref
use Rattle.wit_features.specs.Passed.wit_types-declared-kind-Handle.{Handle}
use Rattle.wit_features.specs.Passed.wit_types-declared-kind-Handle-TheVariants as handle
use Rattle.wit_features.specs.Passed.wit_types-declared-kind-Field.{Field}
use Rattle.wit_features.specs.Passed.wit_types-declared-kind-Case.{Case}
use Rattle.wit_features.specs.Passed.wit_types-declared-kind-Record.{Record}
use Rattle.wit_features.specs.Passed.wit_types-declared-kind-Tuple.{Tuple}
use Rattle.wit_features.specs.Passed.wit_types-declared-kind-Variant.{Variant}
use Rattle.wit_features.specs.Passed.wit_types-declared-kind-Flags.{Flags}
use Rattle.wit_features.specs.Passed.wit_types-declared-kind-Enum.{Enum}
use Rattle.wit_features.specs.Passed.wit_types-declared-kind-Result_.{Result_}
use Rattle.wit_features.specs.Passed.wit_types-declared-kind-TypeDefKind.{TypeDefKind}
use Rattle.wit_features.specs.Passed.wit_types-declared-kind-TypeDefKind-TheVariants as kind
use Rattle.wit_features.specs.Passed.wit_types-declared-interface-TypeDef.{TypeDef}
use Rattle.wit_features.specs.Passed.wit_types-declared-interface-TypeOwner.{TypeOwner}
use Rattle.wit_features.specs.Passed.wit_types-declared-function-Param.{Param}
use Rattle.wit_features.specs.Passed.wit_types-declared-function-Function.{Function}
use Rattle.wit_features.specs.Passed.wit_types-declared-function-FunctionKind.{FunctionKind}
use Rattle.wit_features.specs.Passed.wit_types-declared-function-FunctionKind-TheVariants as of

-- ---- places

-- where types stand by their ids; what is left out stands nowhere
abbrev pub Places : Type 0
Places = List (Option ℕ)

abbrev pub flat : {X : Type 0} → Option (Option X) → Option X
flat None = None
flat (Some o) = o

abbrev pub place_of : Places → ℕ → Option ℕ
place_of places i = flat (slice_get places i)

abbrev pub is_placed : Places → ℕ → Bool
is_placed places i = is_some (place_of places i)

-- where it stands, or as it is
abbrev pub to : Places → ℕ → ℕ
to places i = unwrap_or (place_of places i) i

-- ---- types where they are used

abbrev pub is_ref_placed : Places → Ref → Bool
is_ref_placed places ref.Bool = true
is_ref_placed places ref.U8 = true
is_ref_placed places ref.U16 = true
is_ref_placed places ref.U32 = true
is_ref_placed places ref.U64 = true
is_ref_placed places ref.S8 = true
is_ref_placed places ref.S16 = true
is_ref_placed places ref.S32 = true
is_ref_placed places ref.S64 = true
is_ref_placed places ref.F32 = true
is_ref_placed places ref.F64 = true
is_ref_placed places ref.Char = true
is_ref_placed places ref.String = true
is_ref_placed places ref.ErrorContext = true
is_ref_placed places (ref.Id i) = is_placed places i

abbrev pub is_part_placed : Places → Option Ref → Bool
is_part_placed places None = true
is_part_placed places (Some r) = is_ref_placed places r

abbrev pub moved_ref : (ℕ → ℕ) → Ref → Ref
moved_ref f ref.Bool = ref.Bool
moved_ref f ref.U8 = ref.U8
moved_ref f ref.U16 = ref.U16
moved_ref f ref.U32 = ref.U32
moved_ref f ref.U64 = ref.U64
moved_ref f ref.S8 = ref.S8
moved_ref f ref.S16 = ref.S16
moved_ref f ref.S32 = ref.S32
moved_ref f ref.S64 = ref.S64
moved_ref f ref.F32 = ref.F32
moved_ref f ref.F64 = ref.F64
moved_ref f ref.Char = ref.Char
moved_ref f ref.String = ref.String
moved_ref f ref.ErrorContext = ref.ErrorContext
moved_ref f (ref.Id i) = ref.Id (f i)

abbrev pub moved_part : (ℕ → ℕ) → Option Ref → Option Ref
moved_part f part = option_map (moved_ref f) part

-- ---- definitions

abbrev pub is_handle_placed : Places → Handle → Bool
is_handle_placed places (handle.Own i) = is_placed places i
is_handle_placed places (handle.Borrow i) = is_placed places i

-- all types that a definition names stand somewhere
abbrev pub is_kind_placed : Places → TypeDefKind → Bool
is_kind_placed places (kind.Record r) = list_all (λ x. is_ref_placed places x.ty) r.fields.items
is_kind_placed places kind.Resource = true
is_kind_placed places (kind.Handle h) = is_handle_placed places h
is_kind_placed places (kind.Flags x) = true
is_kind_placed places (kind.Tuple t) = list_all (is_ref_placed places) t.types.items
is_kind_placed places (kind.Variant v) = list_all (λ c. is_part_placed places c.ty) v.cases.items
is_kind_placed places (kind.Enum e) = true
is_kind_placed places (kind.Option r) = is_ref_placed places r
is_kind_placed places (kind.Result r) = is_part_placed places r.ok && is_part_placed places r.err
is_kind_placed places (kind.List r) = is_ref_placed places r
is_kind_placed places (kind.FixedLengthList r n) = is_ref_placed places r
is_kind_placed places (kind.Future p) = is_part_placed places p
is_kind_placed places (kind.Stream p) = is_part_placed places p
is_kind_placed places (kind.Alias r) = is_ref_placed places r
is_kind_placed places kind.Unknown = true

abbrev pub moved_field : (ℕ → ℕ) → Field → Field
moved_field f x = record x { ty = moved_ref f x.ty }

abbrev pub moved_case : (ℕ → ℕ) → Case → Case
moved_case f c = record c { ty = moved_part f c.ty }

abbrev pub moved_handle : (ℕ → ℕ) → Handle → Handle
moved_handle f (handle.Own i) = handle.Own (f i)
moved_handle f (handle.Borrow i) = handle.Borrow (f i)

-- the same definition of the types where they are moved
pub data IsMovedKind (f : ℕ → ℕ) : TypeDefKind → TypeDefKind → Type 0 where
  moved_record : (r s : Record) → s.fields.items ≡ map (moved_field f) r.fields.items → IsMovedKind f (kind.Record r) (kind.Record s)
  moved_resource : IsMovedKind f kind.Resource kind.Resource
  moved_handle_kind : (h : Handle) → IsMovedKind f (kind.Handle h) (kind.Handle (moved_handle f h))
  moved_flags : (x : Flags) → IsMovedKind f (kind.Flags x) (kind.Flags x)
  moved_tuple : (t u : Tuple) → u.types.items ≡ map (moved_ref f) t.types.items → IsMovedKind f (kind.Tuple t) (kind.Tuple u)
  moved_variant : (v w : Variant) → w.cases.items ≡ map (moved_case f) v.cases.items → IsMovedKind f (kind.Variant v) (kind.Variant w)
  moved_enum : (e : Enum) → IsMovedKind f (kind.Enum e) (kind.Enum e)
  moved_option : (r : Ref) → IsMovedKind f (kind.Option r) (kind.Option (moved_ref f r))
  moved_result : (r : Result_) → IsMovedKind f (kind.Result r) (kind.Result (record { ok = moved_part f r.ok; err = moved_part f r.err }))
  moved_list : (r : Ref) → IsMovedKind f (kind.List r) (kind.List (moved_ref f r))
  moved_fixed_length_list : (r : Ref) (n : ℕ) → IsMovedKind f (kind.FixedLengthList r n) (kind.FixedLengthList (moved_ref f r) n)
  moved_future : (p : Option Ref) → IsMovedKind f (kind.Future p) (kind.Future (moved_part f p))
  moved_stream : (p : Option Ref) → IsMovedKind f (kind.Stream p) (kind.Stream (moved_part f p))
  moved_alias : (r : Ref) → IsMovedKind f (kind.Alias r) (kind.Alias (moved_ref f r))
  moved_unknown : IsMovedKind f kind.Unknown kind.Unknown

-- the same type, which belongs there
pub record IsMovedDef (f : ℕ → ℕ) (owner : TypeOwner) (old new : TypeDef) : Type 0 where
  pub name : new.name ≡ old.name
  pub kind : IsMovedKind f old.kind new.kind
  pub owner_is : new.owner ≡ owner
  pub docs : new.docs ≡ old.docs
  pub stability : new.stability ≡ old.stability
  pub span : new.span ≡ old.span

-- ---- functions

-- the resource that a function is of, if it is of one
abbrev pub resource_of : FunctionKind → Option ℕ
resource_of of.Freestanding = None
resource_of of.AsyncFreestanding = None
resource_of (of.Method r) = Some r
resource_of (of.AsyncMethod r) = Some r
resource_of (of.Static r) = Some r
resource_of (of.AsyncStatic r) = Some r
resource_of (of.Constructor r) = Some r

abbrev pub is_resource_placed : Places → Option ℕ → Bool
is_resource_placed places None = true
is_resource_placed places (Some r) = is_placed places r

abbrev pub is_signature_placed : Places → List Param → Option Ref → Bool
is_signature_placed places params result = list_all (λ (p : Param). is_ref_placed places p.ty) params && is_part_placed places result

abbrev pub moved_function_kind : (ℕ → ℕ) → FunctionKind → FunctionKind
moved_function_kind f of.Freestanding = of.Freestanding
moved_function_kind f of.AsyncFreestanding = of.AsyncFreestanding
moved_function_kind f (of.Method r) = of.Method (f r)
moved_function_kind f (of.AsyncMethod r) = of.AsyncMethod (f r)
moved_function_kind f (of.Static r) = of.Static (f r)
moved_function_kind f (of.AsyncStatic r) = of.AsyncStatic (f r)
moved_function_kind f (of.Constructor r) = of.Constructor (f r)

abbrev pub moved_param : (ℕ → ℕ) → Param → Param
moved_param f p = record p { ty = moved_ref f p.ty }

-- the same function over the types where they are moved
pub record IsMovedFunction (f : ℕ → ℕ) (old new : Function) : Type 0 where
  pub name : new.name ≡ old.name
  pub kind : new.kind ≡ moved_function_kind f old.kind
  pub params : new.params.items ≡ map (moved_param f) old.params.items
  pub result : new.result ≡ moved_part f old.result
  pub docs : new.docs ≡ old.docs
  pub stability : new.stability ≡ old.stability
  pub span : new.span ≡ old.span
