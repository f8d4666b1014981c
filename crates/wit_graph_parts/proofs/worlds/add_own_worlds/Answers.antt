use Rattle.std.proofs.Common.{length}
use Rattle.wit_moves.specs.View.{owners}
use Rattle.wit_graph_worlds.specs.Passed.wit_plans-Plans.{standing}
use Rattle.wit_graph_parts.proofs.worlds.add_own_worlds.Goals as goal

pub add_worlds-requires-clause-there : goal.add_worlds-requires-clause-there
add_worlds-requires-clause-there c = rw c.lent.ensures.uses (
    c.law_moved_worlds_are_there.ensures c.args.by.now.features.now (standing (owners c.args.by.now.plan.now.owners) c.args.by.now.plan.now.types) c.args.types.now (length c.args.interfaces.now.uses) c.args.own.items c.in_ok-moved.moved.items
    c.requires.below c.requires.among c.requires.kept c.requires.keys c.in_ok-moved.ensures.ok
    )

pub add_worlds-requires-clause-elaborated : goal.add_worlds-requires-clause-elaborated
add_worlds-requires-clause-elaborated c = rw (c.lent.ensures.all, c.lent.ensures.uses) c.requires.elaborated

pub returns-clause-elaborated : goal.returns-clause-elaborated
returns-clause-elaborated c = rw (← c.lent.ensures.all, ← c.lent.ensures.uses) c.in_ok-add_worlds.ensures.elaborated
