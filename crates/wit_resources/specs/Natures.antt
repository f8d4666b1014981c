-- What is known of the types of an arena one by one, each by those before it.
use Rattle.std.specs.Prelude.{◌≡◌, ℕ, ◌≤◌, Bool, true, false, ◌||◌, List, [], ◌∷◌, ◌++◌, Option, Some, None, length, take, get_or}
use Rattle.std.specs.List.{list_any, list_all}
use Rattle.wit_types.specs.declared.kind.«Type».{«Type» as Ref}
use Rattle.wit_types.specs.declared.kind.«Type».TheVariants as ref
use Rattle.wit_types.specs.declared.kind.Handle.{Handle}
use Rattle.wit_types.specs.declared.kind.Handle.TheVariants as handle
use Rattle.wit_types.specs.declared.kind.TypeDefKind.{TypeDefKind}
use Rattle.wit_types.specs.declared.kind.TypeDefKind.TheVariants as kind
use Rattle.wit_types.specs.declared.interface.TypeDef.{TypeDef}
use Rattle.wit_arena.specs.Tree.{Tree, is_resource, value_of}
use Rattle.wit_resources.specs.Holding.{holds_borrow, all_bits_valid}
use Rattle.wit_resources.specs.declared.natures.Nature.{Nature}

-- of a type by its tree
abbrev pub nature_of : Tree → Nature
nature_of t = record { is_resource = is_resource t; holds_borrow = holds_borrow t; all_bits_valid = all_bits_valid (value_of t) }

-- where a value is asked, its name is a handle
abbrev pub a_resource : Nature
a_resource = record { is_resource = true; holds_borrow = false; all_bits_valid = true }

-- of what is no resource
abbrev pub made_of : Bool → Bool → Nature
made_of b v = record { is_resource = false; holds_borrow = b; all_bits_valid = v }

abbrev pub plain : Nature
plain = made_of false false

-- any bits are a value
abbrev pub number : Nature
number = made_of false true

abbrev pub holding : Bool → Nature
holding b = made_of b false

-- ---- where it is used

abbrev pub ref_nature : List Nature → Ref → Nature
ref_nature done (ref.Id i) = get_or done i plain
ref_nature done ref.Bool = plain
ref_nature done ref.U8 = number
ref_nature done ref.U16 = number
ref_nature done ref.U32 = number
ref_nature done ref.U64 = number
ref_nature done ref.S8 = number
ref_nature done ref.S16 = number
ref_nature done ref.S32 = number
ref_nature done ref.S64 = number
ref_nature done ref.F32 = number
ref_nature done ref.F64 = number
ref_nature done ref.Char = plain
ref_nature done ref.String = plain
ref_nature done ref.ErrorContext = plain

abbrev pub part_holds : List Nature → Option Ref → Bool
part_holds done None = false
part_holds done (Some r) = (ref_nature done r).holds_borrow

-- one of these does
abbrev pub one_holds : {X : Type 0} → List Nature → (X → Option Ref) → List X → Bool
one_holds done part xs = list_any (λ x. part_holds done (part x)) xs

abbrev pub part_is_valid : List Nature → Option Ref → Bool
part_is_valid done None = true
part_is_valid done (Some r) = (ref_nature done r).all_bits_valid

-- all of these are
abbrev pub all_valid : {X : Type 0} → List Nature → (X → Option Ref) → List X → Bool
all_valid done part xs = list_all (λ x. part_is_valid done (part x)) xs

-- ---- by what it is

abbrev pub handle_nature : Handle → Nature
handle_nature (handle.Own i) = number
handle_nature (handle.Borrow i) = made_of true true

abbrev pub kind_nature : List Nature → TypeDefKind → Nature
kind_nature done (kind.Record r) = made_of (one_holds done (λ f. Some f.ty) r.fields.items) (all_valid done (λ f. Some f.ty) r.fields.items)
kind_nature done kind.Resource = a_resource
kind_nature done (kind.Handle h) = handle_nature h
kind_nature done (kind.Flags f) = plain
kind_nature done (kind.Tuple t) = made_of (one_holds done (λ r. Some r) t.types.items) (all_valid done (λ r. Some r) t.types.items)
kind_nature done (kind.Variant v) = holding (one_holds done (λ c. c.ty) v.cases.items)
kind_nature done (kind.Enum e) = plain
kind_nature done (kind.Option r) = holding (part_holds done (Some r))
kind_nature done (kind.Result r) = holding (part_holds done r.ok || part_holds done r.err)
kind_nature done (kind.List r) = holding (part_holds done (Some r))
kind_nature done (kind.FixedLengthList r n) = made_of (part_holds done (Some r)) (part_is_valid done (Some r))
kind_nature done (kind.Future r) = holding (part_holds done r)
kind_nature done (kind.Stream r) = holding (part_holds done r)
kind_nature done (kind.Alias r) = ref_nature done r
-- what another package has may be a resource, and is taken for one
kind_nature done kind.Unknown = a_resource

abbrev pub natures_from : List Nature → List TypeDef → List Nature
natures_from done [] = done
natures_from done (d ∷ ds) = natures_from (done ++ kind_nature done d.kind ∷ []) ds

abbrev pub natures : List TypeDef → List Nature
natures ds = natures_from [] ds

-- of the first types of an arena
abbrev pub AreOfFirst : List TypeDef → List Nature → Type 0
AreOfFirst ds ns = (n : ℕ) × (n ≤ length ds) × (ns ≡ natures (take n ds))
