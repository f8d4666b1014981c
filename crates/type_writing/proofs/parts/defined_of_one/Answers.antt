use Rattle.std.proofs.Common.{[], ◌∷◌, Some, refl, ap}
use Rattle.type_meaning.specs.Tree.{option_kind, list_kind, fixed_length_list_kind, result_kind}
use Rattle.type_meaning.specs.Syntax.{plain}
use Rattle.type_writing.specs.Unfolding.{form_of}
use Rattle.type_writing.proofs.Standing.{case_stands}
use Rattle.type_writing.proofs.parts.defined_of_one.Goals as goal

pub returns-in_ok-value_of-in-Option-clause-defined : goal.returns-in_ok-value_of-in-Option-clause-defined
returns-in_ok-value_of-in-Option-clause-defined g c = λ types good. record {
  form = record { form = plain option_kind; parts = Some c.in-Option.ty ∷ [] };
  is = ap form_of c.in-Option.is;
  same = refl;
  parts = (c.in_ok-value_of-in-Option.ensures.stands types good, tt);
  values = refl;
  no_handle = refl;
}

pub returns-in_ok-value_of-in-List-clause-defined : goal.returns-in_ok-value_of-in-List-clause-defined
returns-in_ok-value_of-in-List-clause-defined g c = λ types good. record {
  form = record { form = plain list_kind; parts = Some c.in-List.ty ∷ [] };
  is = ap form_of c.in-List.is;
  same = refl;
  parts = (c.in_ok-value_of-in-List.ensures.stands types good, tt);
  values = refl;
  no_handle = refl;
}

pub returns-in_ok-value_of-in-FixedLengthList-clause-defined : goal.returns-in_ok-value_of-in-FixedLengthList-clause-defined
returns-in_ok-value_of-in-FixedLengthList-clause-defined g c = λ types good. record {
  form = record { form = record { kind = fixed_length_list_kind; labels = []; number = c.in-FixedLengthList.length }; parts = Some c.in-FixedLengthList.ty ∷ [] };
  is = ap form_of c.in-FixedLengthList.is;
  same = refl;
  parts = (c.in_ok-value_of-in-FixedLengthList.ensures.stands types good, tt);
  values = refl;
  no_handle = refl;
}

pub returns-in_ok-part_of-in-Result-2-clause-defined : goal.returns-in_ok-part_of-in-Result-2-clause-defined
returns-in_ok-part_of-in-Result-2-clause-defined g c = λ types good.
    let S = g.S.ValtypeEncoder in
    let sink = c.args.sink.now in
    record {
      form = record { form = plain result_kind; parts = c.in-Result.parts.ok ∷ c.in-Result.parts.err ∷ [] };
      is = ap form_of c.in-Result.is;
      same = refl;
      parts = (
        case_stands (S.setting sink).label types (S.space sink) c.in-Result.parts.ok c.in_ok-part_of-in-Result.field-0 (c.in_ok-part_of-in-Result.ensures.stands types good),
        (case_stands (S.setting sink).label types (S.space sink) c.in-Result.parts.err c.in_ok-part_of-in-Result-2.field-0 (c.in_ok-part_of-in-Result-2.ensures.stands types good), tt),
      );
      values = refl;
      no_handle = refl;
    }
