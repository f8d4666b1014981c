use Rattle.std.proofs.Common.{List, [], ◌∷◌, ◌++◌, Some, refl, sym, ap, ◌∙◌}
use Rattle.std.specs.Prelude.{option_map, string_bytes}
use Rattle.std.proofs.lemmas.Result.{IfOk-weaker, IfErr-weaker, on_ok_weaker}
use Rattle.distinct_names.specs.Names.{is_new}
use Rattle.type_writing.specs.Writing.{Setting, IsRemembered}
use Rattle.type_writing.proofs.Standing.{begins_same, begins_on, in_either, on_ok_always, named_elsewhere, no_name, no_own_name, own_name, unnamed_stands, named_stands}
use Rattle.type_writing.proofs.Placing.{kind_below, labels_at}
use Rattle.type_writing.proofs.Refusals.{cause_weaker, unnamed_cause, own_name_cause, elsewhere_cause}
use Rattle.type_writing.proofs.types.write_named.Goals as goal

pub returns-in_default-clause-stands : goal.returns-in_default-clause-stands
returns-in_default-clause-stands g c =
    let S = g.S.ValtypeEncoder in
    let new = c.write_kind.new.sink in
    let types = c.args.types.now in
    IfOk-weaker c.write_kind.result _ _ (λ i. unnamed_stands (S.setting new).label types (S.space new) c.args.id i c.get-def.result.now c.get-def.ensures c.in_default.is) (c.write_kind.ensures.stands types c.requires.good)

pub returns-in_default-clause-names : goal.returns-in_default-clause-names
returns-in_default-clause-names g c =
    let S = g.S.ValtypeEncoder in
    let sink = c.args.sink.now in
    on_ok_always c.write_kind.result (c.write_kind.ensures.names ∙ no_name (S.setting sink) c.args.types.now c.args.id c.get-def.result.now (S.names sink) c.get-def.ensures c.in_default.is)

pub returns-in_default-clause-cause : goal.returns-in_default-clause-cause
returns-in_default-clause-cause g c =
    let S = g.S.ValtypeEncoder in
    let sink = c.args.sink.now in
    IfErr-weaker c.write_kind.result _ _ (cause_weaker (unnamed_cause (S.setting sink) (IsRemembered (S.table sink)) (S.names sink) c.args.types.now c.args.id c.get-def.result.now c.get-def.ensures c.in_default.is) (λ h. h)) c.write_kind.ensures.cause

pub returns-then-not-is_own : goal.returns-then-not-is_own
returns-then-not-is_own g c =
    let S = g.S.ValtypeEncoder in
    let sink = c.args.sink.now in
    let new = c.foreign.new.self in
    let types = c.args.types.now in
    let def = c.get-def.result.now in
    let a = c.foreign.ensures in
    let good = c.requires.good in
    let name = ap (option_map string_bytes) c.in-Some.is ∙ ap (λ (t : List _). Some t) (sym c.as_str.ensures.value) in
    let away = sym c.is_own.ensures ∙ c.if-not-is_own.true in
    record {
      setting = a.setting;
      outside = a.outside;
      begins = a.begins types good;
      placed = λ apart. a.placed types good;
      good = in_either c.foreign.result _ (λ i h. (h types def good c.get-def.ensures refl name).0) (λ e. e types good) a.ok a.err;
      table = a.table;
      names = on_ok_always c.foreign.result (a.names ∙ no_own_name (S.setting sink) types c.args.id def (S.names sink) c.get-def.ensures away);
      given = a.keeps;
      named = on_ok_always c.foreign.result (named_elsewhere (S.setting sink) types (S.given new) c.args.id def c.get-def.ensures away);
      stands = IfOk-weaker c.foreign.result _ _ (λ i h. (h types def good c.get-def.ensures refl name).1) a.ok;
      cause = IfErr-weaker c.foreign.result _ _ (cause_weaker (elsewhere_cause (S.setting sink) (IsRemembered (S.table sink)) (S.names sink) types c.args.id def c.get-def.ensures c.in-Some.name c.in-Some.is away) (λ h. h)) a.cause;
    }

pub returns : goal.returns
returns g c =
    let S = g.S.ValtypeEncoder in
    let types = c.args.types.now in
    let def = c.get-def.result.now in
    let sink = c.args.sink.now in
    let old = c.write_kind-2.new.sink in
    let new = c.declare.new.self in
    let body = c.in_ok-body.ensures in
    let keeps = body.keeps types c.requires.good in
    let stands = body.stands types c.requires.good in
    let a = c.declare.ensures in
    let name = ap (option_map string_bytes) c.in-Some.is ∙ ap (λ (t : List _). Some t) (sym c.as_str-2.ensures.value) in
    let own = sym c.is_own.ensures ∙ c.if-not-is_own.false in
    record {
      setting = a.setting ∙ body.setting;
      outside = begins_on (g.S.ValtypeEncoder.outside sink) (g.S.ValtypeEncoder.outside old) (g.S.ValtypeEncoder.outside new) body.outside a.outside;
      begins = begins_on (S.space sink) (S.space old) (S.space new) keeps.0 (in_either c.declare.result _ (λ i h. (_ ∷ [], h.1)) (λ e. begins_same (S.space old) (S.space new) e.0) a.ok a.err);
      placed = λ apart p. a.placed (kind_below (S.setting old).label types (S.space old) def.kind c.in_ok-body.body stands) (body.placed types c.requires.good (labels_at types c.args.id def apart c.get-def.ensures) p);
      good = in_either c.declare.result _ (λ i h. h types def keeps.1 c.get-def.ensures refl name stands) (λ e. e.2 types keeps.1) a.good a.err;
      table = a.table ∙ body.table;
      names = on_ok_weaker c.declare.result (λ h. h ∙ ap (λ l. l ++ c.as_str-2.result.now ∷ []) body.names ∙ ap (λ l. S.names sink ++ l) (own_name (S.setting sink) types c.args.id def c.in-Some.name c.as_str-2.result.now c.get-def.ensures c.in-Some.is own c.as_str-2.ensures.value)) a.names;
      given = λ k h. a.keeps k (body.given k h);
      named = on_ok_weaker c.declare.result (λ h d x at is own. h) a.gives;
      stands = IfOk-weaker c.declare.result _ _ (λ i h.
          named_stands (S.setting old).label (S.setting new).label types (S.space old) (S.space new) c.args.id c.in_ok-body.body i def c.in-Some.name c.get-def.ensures c.in-Some.is (ap (λ (s : Setting). s.label) a.setting) stands h.0 (rw c.as_str-2.ensures.value at h.1)) a.ok;
      cause = IfErr-weaker c.declare.result _ _ (cause_weaker (λ h. own_name_cause (S.setting sink) (IsRemembered (S.table sink)) (S.names sink) types c.args.id def c.get-def.ensures c.in-Some.name c.in-Some.is own c.as_str-2.result.now c.as_str-2.ensures.value (ap (λ l. is_new l c.as_str-2.result.now) (sym body.names) ∙ h)) (λ h. h)) a.cause;
    }
