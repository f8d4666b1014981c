use Rattle.std.proofs.Common.{[], ◌+◌, List, map, take, sym, subst}
use Rattle.wit_types.specs.declared.stability.Stability.{Stability}
use Rattle.wit_lookups.specs.Passed.wit_syntax-AstView as view
use Rattle.wit_lookups.specs.Passed.wit_scopes-declared-members-Front.{Front}
use Rattle.wit_package_types.specs.Stability.{AreGates, IsStabilityOf}
use Rattle.wit_foreign.specs.View as seen
use Rattle.wit_foreign.specs.Deps.{AreStabilities, no_stabilities}
use Rattle.wit_foreign.proofs.Depending.{next_gates, next_stabilities}
use Rattle.wit_foreign.proofs.deps.stabilities_of.Goals as goal

pub loop-need-init : goal.loop-need-init
loop-need-init c = subst (λ (ss : List Stability). AreStabilities [] ss) (sym c.new-found.ensures.items) no_stabilities

pub stability_in-requires : goal.stability_in-requires
stability_in-requires c =
    subst (λ (f : Front). AreGates (map view.attribute f.attributes.items)) (sym c.deref.ensures)
    (next_gates c.args.needs.now c.loop-need.need-index c.need-item.result c.loop-need-test.true c.need-item.is c.requires)

pub loop-need-preserved : goal.loop-need-preserved
loop-need-preserved c =
    subst (λ (ss : List Stability). AreStabilities (seen.needs (take (c.loop-need.need-index + 1) c.args.needs.now)) ss) (sym c.in_ok-push.ensures.items)
    (next_stabilities c.args.needs.now c.loop-need.need-index c.need-item.result c.loop-need-test.true c.need-item.is c.loop-need.found.items c.in_ok-stability.stability c.loop-need.invariant
    (subst (λ (f : Front). IsStabilityOf (map view.attribute f.attributes.items) c.in_ok-stability.stability) c.deref.ensures c.in_ok-stability.ensures))
