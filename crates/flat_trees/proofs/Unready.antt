-- What may be linked has no parts that are never written, and a form, unless it is another name of a type.
use Rattle.std.proofs.Common.{◌≡◌, ℕ, Bool, true, false, ◌||◌, List, [], ◌∷◌, length, Option, Some, None, map, refl, sym, ap, ◌∙◌}
use Rattle.std.proofs.lemmas.List.Folds.{list_any-from_Any}
use Rattle.std.specs.Prelude.{◌==◌, if◌then◌else◌}
use Rattle.std.specs.List.{list_any}
use Rattle.linked_types.specs.Passed.wit_types-declared-function-Function.{Function}
use Rattle.linked_types.specs.Passed.wit_types-declared-function-Param.{Param}
use Rattle.linked_types.specs.Passed.wit_types-declared-interface-TypeDef.{TypeDef}
use Rattle.linked_types.specs.Passed.wit_types-declared-kind-Type.{«Type» as Ref}
use Rattle.linked_types.specs.Passed.wit_types-declared-kind-Type-TheVariants as ref
use Rattle.linked_types.specs.Passed.wit_types-declared-kind-Case.{Case}
use Rattle.linked_types.specs.Passed.wit_types-declared-kind-Field.{Field}
use Rattle.linked_types.specs.Passed.wit_types-declared-kind-TypeDefKind.{TypeDefKind}
use Rattle.linked_types.specs.Passed.wit_types-declared-kind-TypeDefKind-TheVariants as kind
use Rattle.flat_types.proofs.Signing.{any_of_map}
use Rattle.linked_types.specs.Kinds.{is_error_context, part_is, if_async, unless_empty, kind_fault}
use Rattle.linked_types.specs.Reached.{function_kind_fault, or_else, function_fault}
use Rattle.linked_types.specs.declared.fault.TypeFault.{TypeFault}
use Rattle.linked_types.specs.declared.fault.TypeFault.TheVariants.{AsyncReached, EmptyTypeReached}
use Rattle.type_writing.specs.Functions.{function_form}
use Rattle.type_writing.specs.Refusals.{IsUnready, AreUnready, IsKindUnready}

-- every type is ready
abbrev pub every : ℕ → Type 0
every _ = Unit {0}

-- ---- faults

no_async : (b : Bool) → b ≡ true → if_async b ≡ None → ⊥
no_async true e h = (let f : Some AsyncReached ≡ None = h in cc)
no_async false e h = cc

no_parts : (n : ℕ) (b : Bool) → b ≡ true → unless_empty n b ≡ None → ⊥
no_parts n b e h = by (n == 0) h
  where
    by : (z : Bool) → (if z then Some EmptyTypeReached else if_async b) ≡ None → ⊥
    by true h = (let f : Some EmptyTypeReached ≡ None = h in cc)
    by false h = no_async b e h

no_function : (o : Option TypeFault) (b : Bool) → b ≡ true → or_else o (if_async b) ≡ None → ⊥
no_function None b e h = no_async b e h
no_function (Some fault) b e h = (let f : Some fault ≡ None = h in cc)

-- ---- parts

unwritten : (p : Option Ref) → IsUnready every p → part_is p ≡ true
unwritten (Some (ref.Id i)) u = absurd (u tt)
unwritten (Some ref.ErrorContext) u = refl
unwritten _ u = absurd u

any_unwritten : (ps : List (Option Ref)) → AreUnready every ps → list_any part_is ps ≡ true
any_unwritten ps u = list_any-from_Any part_is ps (u.0, u.1, u.2, u.3, unwritten u.1 u.4)

any_mapped : {X : Type 0} (f : X → Option Ref) (xs : List X) → AreUnready every (map f xs) → list_any (λ (x : X). part_is (f x)) xs ≡ true
any_mapped f xs u = sym (any_of_map part_is f xs) ∙ any_unwritten (map f xs) u

or_none : (a : Bool) → (a || false) ≡ true → a ≡ true
or_none true h = refl
or_none false h = h

or_then_none : (a b : Bool) → (a || (b || false)) ≡ true → (a || b) ≡ true
or_then_none true b h = refl
or_then_none false b h = or_none b h

swapped : (a b : Bool) → (a || b) ≡ true → (b || a) ≡ true
swapped true true h = refl
swapped true false h = refl
swapped false true h = refl
swapped false false h = h

-- ---- kinds

kind_written : (k : TypeDefKind) → kind_fault k ≡ None → IsKindUnready every k → ⊥
kind_written (kind.Record r) ok u = no_parts (length r.fields.items) (list_any (λ (f : Field). is_error_context f.ty) r.fields.items) (any_mapped (λ (f : Field). Some f.ty) r.fields.items u) ok
kind_written (kind.Tuple t) ok u = no_parts (length t.types.items) (list_any is_error_context t.types.items) (any_mapped (λ (r : Ref). Some r) t.types.items u) ok
kind_written (kind.Flags f) ok u = (let e = any_unwritten [] u in cc)
kind_written (kind.Variant v) ok u = no_async (list_any (λ (c : Case). part_is c.ty) v.cases.items) (any_mapped (λ (c : Case). c.ty) v.cases.items u) ok
kind_written (kind.Enum e) ok u = (let e = any_unwritten [] u in cc)
kind_written (kind.Option r) ok u = no_async (is_error_context r) (or_none (is_error_context r) (any_unwritten (Some r ∷ []) u)) ok
kind_written (kind.Result r) ok u = no_async (part_is r.ok || part_is r.err) (or_then_none (part_is r.ok) (part_is r.err) (any_unwritten (r.ok ∷ r.err ∷ []) u)) ok
kind_written (kind.List r) ok u = no_async (is_error_context r) (or_none (is_error_context r) (any_unwritten (Some r ∷ []) u)) ok
kind_written (kind.FixedLengthList r n) ok u = no_async (is_error_context r) (or_none (is_error_context r) (any_unwritten (Some r ∷ []) u)) ok
kind_written (kind.Alias r) ok u = no_async (is_error_context r) (unwritten (Some r) u) ok
kind_written (kind.Future r) ok u = absurd cc
kind_written (kind.Stream r) ok u = absurd cc
kind_written kind.Resource ok u = absurd cc
kind_written (kind.Handle h) ok u = absurd cc
kind_written kind.Unknown ok u = absurd cc

pub type_written : (d : TypeDef) → kind_fault d.kind ≡ None → IsKindUnready every d.kind → ⊥
type_written d ok u = kind_written d.kind ok u

-- ---- functions

pub function_written : (f : Function) → function_fault f ≡ None → AreUnready every (function_form f.params.items f.result).parts → ⊥
function_written f ok u =
    let any : (part_is f.result || list_any part_is (map (λ (p : Param). Some p.ty) f.params.items)) ≡ true = any_unwritten (f.result ∷ map (λ (p : Param). Some p.ty) f.params.items) u in
    let here : (part_is f.result || list_any (λ (p : Param). is_error_context p.ty) f.params.items) ≡ true = ap (λ (b : Bool). part_is f.result || b) (sym (any_of_map part_is (λ (p : Param). Some p.ty) f.params.items)) ∙ any in
    no_function (function_kind_fault f.kind) (list_any (λ (p : Param). is_error_context p.ty) f.params.items || part_is f.result) (swapped (part_is f.result) (list_any (λ (p : Param). is_error_context p.ty) f.params.items) here) ok
