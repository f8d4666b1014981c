-- Kinds of types that aren't linked (Component Model, Explainer, Type Definitions; Canonical ABI, Alignment).
use Rattle.std.specs.Prelude.{ℕ, nat_lt, Bool, true, false, ◌||◌, ◌==◌, if◌then◌else◌, length, Option, Some, None, option_map}
use Rattle.std.specs.Borrow.{Bor}
use Rattle.std.specs.List.{list_any}
use Rattle.wit_types.specs.declared.kind.«Type».{«Type» as Ref}
use Rattle.wit_types.specs.declared.kind.«Type».TheVariants as ref
use Rattle.wit_types.specs.declared.kind.Case.{Case}
use Rattle.wit_types.specs.declared.kind.Field.{Field}
use Rattle.wit_types.specs.declared.kind.TypeDefKind.{TypeDefKind}
use Rattle.wit_types.specs.declared.kind.TypeDefKind.TheVariants as kind
use Rattle.linked_types.specs.declared.fault.TypeFault.{TypeFault}
use Rattle.linked_types.specs.declared.fault.TypeFault.TheVariants.{NotYet, AsyncReached, EmptyTypeReached, TooManyFlags}

abbrev pub is_error_context : Ref → Bool
is_error_context ref.ErrorContext = true
is_error_context _ = false

abbrev pub part_is : Option Ref → Bool
part_is None = false
part_is (Some r) = is_error_context r

-- behind a reference
abbrev pub part : Option (Bor Ref) → Option Ref
part r = option_map (λ x. x.now) r

abbrev pub if_async : Bool → Option TypeFault
if_async is = if is then Some AsyncReached else None

abbrev pub unless_empty : ℕ → Bool → Option TypeFault
unless_empty count is_async = if count == 0 then Some EmptyTypeReached else if_async is_async

abbrev pub flags_fault : ℕ → Option TypeFault
flags_fault count = if nat_lt 32 count then Some TooManyFlags else unless_empty count false

-- why types of a kind aren't linked
abbrev pub kind_fault : TypeDefKind → Option TypeFault
kind_fault (kind.Record r) = unless_empty (length r.fields.items) (list_any (λ (f : Field). is_error_context f.ty) r.fields.items)
kind_fault (kind.Tuple t) = unless_empty (length t.types.items) (list_any is_error_context t.types.items)
kind_fault (kind.Flags f) = flags_fault (length f.flags.items)
kind_fault (kind.Variant v) = if_async (list_any (λ (c : Case). part_is c.ty) v.cases.items)
kind_fault (kind.Enum e) = None
kind_fault (kind.Option r) = if_async (is_error_context r)
kind_fault (kind.Result r) = if_async (part_is r.ok || part_is r.err)
kind_fault (kind.List r) = if_async (is_error_context r)
kind_fault (kind.FixedLengthList r n) = if_async (is_error_context r)
kind_fault (kind.Alias r) = if_async (is_error_context r)
kind_fault (kind.Future r) = Some AsyncReached
kind_fault (kind.Stream r) = Some AsyncReached
kind_fault kind.Resource = Some NotYet
kind_fault (kind.Handle h) = Some NotYet
kind_fault kind.Unknown = Some NotYet
