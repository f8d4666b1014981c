use Rattle.std.proofs.Common.{[], ◌∷◌, ap}
use Rattle.std.proofs.lemmas.Result.{IfOk-weaker, IfErr-weaker}
use Rattle.type_meaning.specs.Passed.component_value_types-Types.{defined_type_value}
use Rattle.type_writing.specs.Writing.{Setting}
use Rattle.type_writing.proofs.Standing.{begins_here, begins_same, in_either, defined_stands}
use Rattle.type_writing.proofs.Placing.{defined_placed}
use Rattle.type_writing.proofs.Refusals.{cause_weaker}
use Rattle.type_writing.proofs.types.write_kind.Goals as goal

pub returns-in_err-defined-clause-outside : goal.returns-in_err-defined-clause-outside
returns-in_err-defined-clause-outside g c = begins_here (g.S.ValtypeEncoder.outside c.args.sink.now)

pub returns : goal.returns
returns g c =
    let S = g.S.ValtypeEncoder in
    let sink = c.args.sink.now in
    let new = c.define.new.self in
    let a = c.define.ensures in
    let label = ap (λ (s : Setting). s.label) a.setting in
    record {
      setting = a.setting;
      outside = a.outside;
      table = a.table;
      names = a.names;
      given = a.keeps;
      keeps = λ types good. (in_either c.define.result _ (λ i h. (_ ∷ [], h.1)) (λ e. begins_same (S.space sink) (S.space new) e) a.ok a.err, a.good types good);
      placed = λ types good apart. a.placed (defined_placed (S.setting sink).label types (S.space sink) c.args.kind.now (defined_type_value c.in_ok-defined.defined) (c.in_ok-defined.ensures.defined types good) apart);
      stands = λ types good. IfOk-weaker c.define.result _ _ (λ i h.
          defined_stands (S.setting sink).label (S.setting new).label types (S.space sink) (S.space new) c.args.kind.now (defined_type_value c.in_ok-defined.defined) i (c.in_ok-defined.ensures.defined types good) label h.0 h.1) a.ok;
      cause = IfErr-weaker c.define.result _ _ (cause_weaker (λ h. absurd h) (λ h. h)) a.cause;
    }
