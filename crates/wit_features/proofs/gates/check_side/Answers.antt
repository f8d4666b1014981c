use Rattle.std.proofs.Common.{map}
use Rattle.std.proofs.lemmas.Result.{err_from_is_err_and}
use Rattle.wit_types.specs.declared.world.WorldItem.{WorldItem}
use Rattle.wit_types.specs.declared.world_key.WorldKey.{WorldKey}
use Rattle.wit_features.specs.Gates as spec
use Rattle.wit_features.proofs.Leading.{leads_on, late_here, leads_done}
use Rattle.wit_features.proofs.gates.check_side.Goals as goal

pub loop-item-preserved : goal.loop-item-preserved
loop-item-preserved c = leads_on c.args.of.now.version spec.of_item (map (λ (e : WorldKey × WorldItem). e.1) c.args.side.now.entries) c.in-Some.item.now c.next.new.self c.loop-item.item-iterator c.in-Some.ensures.steps c.in_ok-check_item.ensures.ok c.loop-item.invariant

pub returns-in_err-check_item-clause-cause : goal.returns-in_err-check_item-clause-cause
returns-in_err-check_item-clause-cause c =
    let p = err_from_is_err_and c.from_residual.result c.from_residual.ensures.1 in
    rw (p.1, p.2) (late_here c.args.of.now.version spec.of_item (map (λ (e : WorldKey × WorldItem). e.1) c.args.side.now.entries) c.in-Some.item.now c.next.new.self c.loop-item.item-iterator _ c.in-Some.ensures.steps c.in_err-check_item.ensures.cause c.loop-item.invariant)

pub returns-clause-ok : goal.returns-clause-ok
returns-clause-ok c = leads_done c.args.of.now.version spec.of_item (map (λ (e : WorldKey × WorldItem). e.1) c.args.side.now.entries) c.loop-item.item-iterator c.in-None.ensures.steps.0 c.loop-item.invariant
