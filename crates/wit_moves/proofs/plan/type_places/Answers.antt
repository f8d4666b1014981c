use Rattle.std.proofs.Common.{◌≡◌, ◌+◌, ◌≤◌, true, ap, ◌∙◌, arith}
use Rattle.std.proofs.lemmas.List.{take_all}
use Rattle.std.proofs.lemmas.Option.{slice_get_within}
use Rattle.wit_moves.specs.Plan.{Plan, with_types}
use Rattle.wit_moves.specs.View as seen
use Rattle.wit_moves.proofs.Planning.{next_within, next_plan, next_kept}
use Rattle.wit_moves.proofs.plan.type_places.Goals as goal
use Rattle.wit_moves.proofs.plan.type_places.Goals.{else-stays-via-then-stays+else-not-has_kind, else-stays-via-else-stays}

pub loop-def-preserved : goal.loop-def-preserved
loop-def-preserved c =
    let f = c.args.features.now in
    let o = seen.owners c.args.owners.now in
    let p : Plan = record { places = c.args.others; next = c.args.base } in
    let q : Plan = record { places = c.loop-def.places; next = c.loop-def.next } in
    let r : Plan = record { places = c.place_type.new.places; next = c.in_ok-next.next } in
    let ds = c.args.defs.now in
    let k = c.loop-def.def-index in
    let d = c.def-item.result in
    let within = c.loop-def-test.true in
    let inv = c.loop-def.invariant in
    let grown : r.next ≤ q.next + 1 = next_within c.stays-stays.result q r c.in_ok-next.ensures in
    let few = inv.few in
    record {
      so_far = next_plan f o p ds k d within c.def-item.is q r c.stays-stays.result inv.so_far c.stays-stays.ensures c.in_ok-next.ensures;
      few = omega (arith, grown, few);
      kept = next_kept f o p ds k d within c.def-item.is q inv.so_far (elim c.else-stays.branch [
        | else-stays-via-then-stays+else-not-has_kind w ↦ λ yes no. (let has : w.has_kind.result ≡ true = w.if-not-has_kind.false in let is = w.has_kind.ensures in cc)
        | else-stays-via-else-stays w ↦ λ yes no. (let none = w.if-stays.false in let is = c.stays-stays.ensures in cc)
      ]) inv.kept;
    }

pub returns-clause-ok : goal.returns-clause-ok
returns-clause-ok c =
    let f = c.args.features.now in
    let o = seen.owners c.args.owners.now in
    let p : Plan = record { places = c.args.others; next = c.args.base } in
    let past = c.loop-def-test.false in
    record {
      are = ap (λ (r : Plan). r.places) c.loop-def.invariant.so_far ∙ ap (λ ds. (with_types f o p ds).places) (take_all c.loop-def.def-index c.args.defs.now (omega (arith, past)));
      kept = λ at b. (let l = slice_get_within c.args.defs.now b.place b.one b.breaks.there in c.loop-def.invariant.kept b.place b.one (omega (arith, l, past)) b.breaks);
    }
