use Rattle.std.proofs.Common.{[], ◌∷◌, ap, length}
use Rattle.std.proofs.lemmas.Result.{IfOk-weaker, IfErr-weaker}
use Rattle.type_writing.specs.Writing.{Setting}
use Rattle.type_writing.proofs.Standing.{begins_here, begins_same, in_either, index_alias, primitive_alias}
use Rattle.type_writing.proofs.Placing.{primitive_placed}
use Rattle.type_writing.proofs.Refusals.{cause_weaker}
use Rattle.type_writing.proofs.types.write_alias.Goals as goal

pub returns-in-Index-clause-stands : goal.returns-in-Index-clause-stands
returns-in-Index-clause-stands g c = λ types good.
    let S = g.S.ValtypeEncoder in
    let sink = c.args.sink.now in
    index_alias (S.setting sink).label types (S.space sink) c.args.ty.now c.in_ok-index.field-0 c.in-Index.index (c.in_ok-index.ensures.stands types good) c.in-Index.is

pub returns-in-Index-clause-outside : goal.returns-in-Index-clause-outside
returns-in-Index-clause-outside g c = begins_here (g.S.ValtypeEncoder.outside c.args.sink.now)

pub returns-in-Primitive : goal.returns-in-Primitive
returns-in-Primitive g c =
    let S = g.S.ValtypeEncoder in
    let sink = c.args.sink.now in
    let new = c.define.new.self in
    let a = c.define.ensures in
    let label = ap (λ (s : Setting). s.label) a.setting in
    record {
      setting = a.setting;
      outside = a.outside;
      table = a.table;
      names = a.names;
      given = a.keeps;
      keeps = λ types good. (in_either c.define.result _ (λ i h. (_ ∷ [], h.1)) (λ e. begins_same (S.space sink) (S.space new) e) a.ok a.err, a.good types good);
      placed = a.placed (primitive_placed (length (S.space sink)) c.in-Primitive.primitive);
      stands = λ types good. IfOk-weaker c.define.result _ _ (λ i h.
          primitive_alias (S.setting sink).label (S.setting new).label types (S.space sink) (S.space new) c.args.ty.now c.in_ok-index.field-0 c.in-Primitive.primitive i (c.in_ok-index.ensures.stands types good) c.in-Primitive.is label h.0 h.1) a.ok;
      cause = IfErr-weaker c.define.result _ _ (cause_weaker (λ h. absurd h) (λ h. h)) a.cause;
    }
