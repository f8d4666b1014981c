use Rattle.std.proofs.Common.{◌++◌, ap, ◌∙◌}
use Rattle.std.specs.Prelude.{slice_get}
use Rattle.std.proofs.lemmas.Result.{err_from_is_err_and}
use Rattle.type_writing.specs.Writing.{Setting, name_of, IsRemembered}
use Rattle.type_writing.proofs.Standing.{begins_on, named_next, names_next}
use Rattle.type_writing.proofs.Refusals.{cause_weaker, remembers_next, types_cause}
use Rattle.type_writing.proofs.types.write_types.Goals as goal

pub returns-in_err-write_type-clause-outside : goal.returns-in_err-write_type-clause-outside
returns-in_err-write_type-clause-outside g c = begins_on (g.S.ValtypeEncoder.outside c.args.sink.now) (g.S.ValtypeEncoder.outside c.loop-id.sink) (g.S.ValtypeEncoder.outside c.write_type.new.sink) c.loop-id.invariant.outside c.in_err-write_type.ensures.outside

pub loop-id-preserved : goal.loop-id-preserved
loop-id-preserved g c =
    let S = g.S.ValtypeEncoder in
    let start = c.args.sink.now in
    let old = c.loop-id.sink in
    let new = c.write_type.new.sink in
    let before = c.loop-id.invariant in
    let a = c.in_ok-write_type.ensures in
    let types = c.args.types.now in
    let ids = c.args.ids.now in
    let i = c.loop-id.id-index in
    let id = c.id-item.result in
    let lt = c.loop-id-test.true in
    let at = c.id-item.is in
    record {
      setting = a.setting ∙ before.setting;
      outside = begins_on (g.S.ValtypeEncoder.outside start) (g.S.ValtypeEncoder.outside old) (g.S.ValtypeEncoder.outside new) before.outside a.outside;
      begins = begins_on (S.space start) (S.space old) (S.space new) before.begins a.begins;
      good = a.good;
      placed = λ apart p. a.placed apart (before.placed apart p);
      remembered = remembers_next (IsRemembered (S.table start)) (IsRemembered (S.table old)) (IsRemembered (S.table new)) ids i id lt at before.remembered a.remembers (c.in_ok-write_type.field-0, a.remembered);
      names = names_next (S.setting start) types (S.names start) (S.names old) (S.names new) ids i id lt at before.names (◌∙◌ {b = S.names old ++ name_of (S.setting old) (slice_get types id)} a.names (ap (λ (s : Setting). S.names old ++ name_of s (slice_get types id)) before.setting));
      given = λ k h. a.given k (before.given k h);
      named = named_next (S.setting start) (S.setting old) types (S.given old) (S.given new) ids i id lt at before.setting a.given before.named a.named;
    }

pub returns-in_err-write_type-clause-cause : goal.returns-in_err-write_type-clause-cause
returns-in_err-write_type-clause-cause g c =
    let S = g.S.ValtypeEncoder in
    let start = c.args.sink.now in
    let old = c.loop-id.sink in
    let before = c.loop-id.invariant in
    let moved = err_from_is_err_and c.from_residual.result c.from_residual.ensures.1 in
    rw (moved.1, moved.2)
    (cause_weaker
    (types_cause (S.setting start) (S.setting old) (IsRemembered (S.table start)) (IsRemembered (S.table old)) (S.names start) (S.names old) c.args.types.now c.args.ids.now c.loop-id.id-index c.id-item.result c.loop-id-test.true c.id-item.is before.setting before.remembered before.names)
    (λ h. h)
    c.in_err-write_type.field-0.0
    c.in_err-write_type.ensures.cause)
