use Rattle.wit_moves.specs.View.{owners}
use Rattle.wit_graph_worlds.specs.Passed.wit_plans-Plans.{standing}
use Rattle.wit_graph_parts.proofs.worlds.add_interfaces.Goals as goal

pub extend-requires-clause-there : goal.extend-requires-clause-there
extend-requires-clause-there c = λ d h.
    (c.law_moved_interfaces_are_there.ensures c.args.by.now.features.now (standing (owners c.args.by.now.plan.now.owners) c.args.by.now.plan.now.types) c.args.by.now.owner c.args.types.now c.args.own.items c.in_ok-moved.moved.items
    c.requires.below c.requires.kept c.in_ok-moved.ensures.ok d h).names
