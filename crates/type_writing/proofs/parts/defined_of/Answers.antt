use Rattle.std.proofs.Common.{[], Some, Option, map, refl, sym, ap, subst}
use Rattle.std.specs.Prelude.{string_bytes}
use Rattle.type_meaning.specs.Passed.component_value_types-declared-values-ValueType.{ValueType}
use Rattle.type_meaning.specs.Passed.component_value_types-Types.{case_value}
use Rattle.wit_types.specs.declared.kind.Field.{Field}
use Rattle.wit_types.specs.declared.kind.Case.{Case}
use Rattle.wit_types.specs.declared.kind.Flag.{Flag}
use Rattle.wit_types.specs.declared.kind.EnumCase.{EnumCase}
use Rattle.wit_types.specs.declared.kind.«Type».{«Type» as Ref}
use Rattle.type_meaning.specs.Tree.{record_kind, tuple_kind, variant_kind, flags_kind, enum_kind}
use Rattle.type_meaning.specs.Syntax.{plain, labelled}
use Rattle.type_writing.specs.Unfolding.{form_of}
use Rattle.type_writing.specs.Writing.{PartsStand}
use Rattle.type_writing.proofs.Standing.{items_fused, there_fused}
use Rattle.type_writing.proofs.parts.defined_of.Goals as goal

pub returns-in_ok-fields_of-in-Record-clause-defined : goal.returns-in_ok-fields_of-in-Record-clause-defined
returns-in_ok-fields_of-in-Record-clause-defined g c = λ types good.
    let S = g.S.ValtypeEncoder in
    let sink = c.args.sink.now in
    let fields = c.in-Record.record.fields.items in
    let items = c.in_ok-fields_of-in-Record.field-0.items in
    record {
      form = record { form = labelled record_kind (map (λ (f : Field). string_bytes f.name) fields); parts = map (λ (f : Field). Some f.ty) fields };
      is = ap form_of c.in-Record.is;
      same = ap (labelled record_kind) (rw c.deref.ensures.value at c.in_ok-fields_of-in-Record.ensures.names);
      parts = subst (PartsStand (S.setting sink).label types (S.space sink) (map (λ (f : Field). Some f.ty) fields)) (sym (items_fused (λ (t : ValueType). t) (λ (t : ValueType). Some t) items)) (rw c.deref.ensures.value at c.in_ok-fields_of-in-Record.ensures.parts types good);
      values = refl;
      no_handle = refl;
    }

pub returns-in_ok-types_of-in-Tuple-clause-defined : goal.returns-in_ok-types_of-in-Tuple-clause-defined
returns-in_ok-types_of-in-Tuple-clause-defined g c = λ types good.
    let S = g.S.ValtypeEncoder in
    let sink = c.args.sink.now in
    let given = c.in-Tuple.tuple.types.items in
    let items = c.in_ok-types_of-in-Tuple.field-0.items in
    record {
      form = record { form = plain tuple_kind; parts = map (λ (r : Ref). Some r) given };
      is = ap form_of c.in-Tuple.is;
      same = refl;
      parts = subst (PartsStand (S.setting sink).label types (S.space sink) (map (λ (r : Ref). Some r) given)) (sym (there_fused items)) (rw c.deref-in-Tuple.ensures.value at c.in_ok-types_of-in-Tuple.ensures.parts types good);
      values = refl;
      no_handle = refl;
    }

pub returns-in_ok-cases_of-in-Variant-clause-defined : goal.returns-in_ok-cases_of-in-Variant-clause-defined
returns-in_ok-cases_of-in-Variant-clause-defined g c = λ types good.
    let S = g.S.ValtypeEncoder in
    let sink = c.args.sink.now in
    let given = c.in-Variant.variant.cases.items in
    let items = c.in_ok-cases_of-in-Variant.field-0.items in
    record {
      form = record { form = labelled variant_kind (map (λ (x : Case). string_bytes x.name) given); parts = map (λ (x : Case). x.ty) given };
      is = ap form_of c.in-Variant.is;
      same = ap (labelled variant_kind) (rw c.deref-in-Variant.ensures.value at c.in_ok-cases_of-in-Variant.ensures.names);
      parts = subst (PartsStand (S.setting sink).label types (S.space sink) (map (λ (x : Case). x.ty) given)) (sym (items_fused case_value (λ (t : Option ValueType). t) items)) (rw c.deref-in-Variant.ensures.value at c.in_ok-cases_of-in-Variant.ensures.parts types good);
      values = refl;
      no_handle = refl;
    }

pub returns-in_ok-flag_names-in-Flags-clause-defined : goal.returns-in_ok-flag_names-in-Flags-clause-defined
returns-in_ok-flag_names-in-Flags-clause-defined g c = λ types good.
    let S = g.S.ValtypeEncoder in
    let sink = c.args.sink.now in
    let given = c.in-Flags.flags.flags.items in
    let items = c.in_ok-flag_names-in-Flags.field-0.items in
    record {
      form = record { form = labelled flags_kind (map (λ (f : Flag). string_bytes f.name) given); parts = [] };
      is = ap form_of c.in-Flags.is;
      same = ap (labelled flags_kind) (rw c.deref-in-Flags.ensures.value at c.in_ok-flag_names-in-Flags.ensures);
      parts = tt;
      values = refl;
      no_handle = refl;
    }

pub returns-in_ok-case_names-in-Enum-clause-defined : goal.returns-in_ok-case_names-in-Enum-clause-defined
returns-in_ok-case_names-in-Enum-clause-defined g c = λ types good.
    let S = g.S.ValtypeEncoder in
    let sink = c.args.sink.now in
    let given = c.in-Enum.cases.cases.items in
    let items = c.in_ok-case_names-in-Enum.field-0.items in
    record {
      form = record { form = labelled enum_kind (map (λ (x : EnumCase). string_bytes x.name) given); parts = [] };
      is = ap form_of c.in-Enum.is;
      same = ap (labelled enum_kind) (rw c.deref-in-Enum.ensures.value at c.in_ok-case_names-in-Enum.ensures);
      parts = tt;
      values = refl;
      no_handle = refl;
    }
