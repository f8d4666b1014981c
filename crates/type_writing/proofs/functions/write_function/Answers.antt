use Rattle.std.proofs.Common.{[], ◌∷◌, ap}
use Rattle.std.proofs.lemmas.Result.{IfOk-weaker, IfErr-weaker, err_from_is_err_and}
use Rattle.type_meaning.specs.Passed.component_value_types-Types.{function, function_type_value}
use Rattle.type_writing.specs.Writing.{Setting}
use Rattle.type_writing.proofs.Standing.{begins_here, begins_same, in_either, function_stands}
use Rattle.type_writing.proofs.Placing.{function_placed}
use Rattle.type_writing.proofs.Refusals.{cause_weaker}
use Rattle.type_writing.proofs.functions.write_function.Goals as goal

pub returns-in_err-function-clause-cause : goal.returns-in_err-function-clause-cause
returns-in_err-function-clause-cause g c =
    let moved = err_from_is_err_and c.from_residual.result c.from_residual.ensures.1 in
    rw (moved.1, moved.2)
    (cause_weaker (λ h. h) (λ h. absurd h) c.in_err-function.field-0.0 c.in_err-function.ensures.cause)

pub returns-in_err-function-clause-outside : goal.returns-in_err-function-clause-outside
returns-in_err-function-clause-outside g c = begins_here (g.S.ValtypeEncoder.outside c.args.sink.now)

pub returns-in_err-function-clause-begins : goal.returns-in_err-function-clause-begins
returns-in_err-function-clause-begins g c = begins_here (g.S.ValtypeEncoder.space c.args.sink.now)

pub returns : goal.returns
returns g c =
    let S = g.S.ValtypeEncoder in
    let sink = c.args.sink.now in
    let new = c.define.new.self in
    let a = c.define.ensures in
    let label = ap (λ (s : Setting). s.label) a.setting in
    record {
      setting = a.setting;
      outside = a.outside;
      table = a.table;
      names = a.names;
      given = a.keeps;
      begins = in_either c.define.result _ (λ i h. (_ ∷ [], h.1)) (λ e. begins_same (S.space sink) (S.space new) e) a.ok a.err;
      err = a.err;
      good = a.good;
      placed = λ types good apart. a.placed (function_placed (S.setting sink).label types (S.space sink) c.args.params.now c.args.answer.now (function (function_type_value c.in_ok-function.function)) (c.in_ok-function.ensures.function types good) apart);
      stands = λ types good. IfOk-weaker c.define.result _ _ (λ i h.
          function_stands (S.setting sink).label (S.setting new).label types (S.space sink) (S.space new) c.args.params.now c.args.answer.now (function (function_type_value c.in_ok-function.function)) i (c.in_ok-function.ensures.function types good) label h.0 h.1) a.ok;
      cause = IfErr-weaker c.define.result _ _ (cause_weaker (λ h. absurd h) (λ h. h)) a.cause;
    }
