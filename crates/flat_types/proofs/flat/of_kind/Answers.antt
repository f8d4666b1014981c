use Rattle.std.proofs.Common.{◌≡◌, List, Some, map, sym, subst}
use Rattle.std.specs.Prelude.{IfOk}
use Rattle.wit_types.specs.declared.kind.«Type».{«Type» as Ref}
use Rattle.wit_types.specs.declared.kind.Field.{Field}
use Rattle.wit_types.specs.declared.kind.Case.{Case}
use Rattle.wit_types.specs.declared.kind.TypeDefKind.{TypeDefKind}
use Rattle.flat_types.specs.Flats.{part_flat, of_fields, of_cases, kind_flat}
use Rattle.flat_types.specs.View.{flat_value}
use Rattle.flat_types.specs.declared.known.Flat.{Flat}
use Rattle.flat_types.proofs.flat.of_kind.Goals as goal

pub returns-in-Record : goal.returns-in-Record
returns-in-Record c =
    subst (λ (k : TypeDefKind). IfOk c.of_fields.result (λ (f : Flat). flat_value f ≡ kind_flat (map flat_value c.args.known.now) k)) (sym c.in-Record.is)
    (subst (λ (xs : List Field). IfOk c.of_fields.result (λ (f : Flat). flat_value f ≡ of_fields (map (λ x. part_flat (map flat_value c.args.known.now) (Some x.ty)) xs))) c.as_slice.ensures.value c.of_fields.ensures)

pub returns-in-Tuple : goal.returns-in-Tuple
returns-in-Tuple c =
    subst (λ (k : TypeDefKind). IfOk c.of_fields-in-Tuple.result (λ (f : Flat). flat_value f ≡ kind_flat (map flat_value c.args.known.now) k)) (sym c.in-Tuple.is)
    (subst (λ (xs : List Ref). IfOk c.of_fields-in-Tuple.result (λ (f : Flat). flat_value f ≡ of_fields (map (λ x. part_flat (map flat_value c.args.known.now) (Some x)) xs))) c.as_slice-in-Tuple.ensures.value
    c.of_fields-in-Tuple.ensures)

pub returns-in-Variant : goal.returns-in-Variant
returns-in-Variant c =
    subst (λ (k : TypeDefKind). IfOk c.of_cases.result (λ (f : Flat). flat_value f ≡ kind_flat (map flat_value c.args.known.now) k)) (sym c.in-Variant.is)
    (subst (λ (xs : List Case). IfOk c.of_cases.result (λ (f : Flat). flat_value f ≡ of_cases (map (λ x. part_flat (map flat_value c.args.known.now) x.ty) xs))) c.as_slice-in-Variant.ensures.value c.of_cases.ensures)
