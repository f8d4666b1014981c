use Rattle.std.proofs.Common.{ℕ, ◌<◌, length}
use Rattle.std.proofs.lemmas.Result.{IfOk-weaker}
use Rattle.wit_reach.specs.Passed.wit_order-Order.{Has}
use Rattle.wit_reach.specs.Reach.{Lists, Uses, lists_of, IsElaboration}
use Rattle.wit_reach.specs.Lists.{AreListsOf}
use Rattle.wit_reach.proofs.There.{labelled_has}
use Rattle.wit_elaborated.proofs.worlds.order_of.Goals as goal

pub world_lists-requires-clause-labelled : goal.world_lists-requires-clause-labelled
world_lists-requires-clause-labelled c = λ i h. c.requires.interfaces.imports i (labelled_has c.args.world.now.imports.entries i h)

pub elaborate-requires-clause-there : goal.elaborate-requires-clause-there
elaborate-requires-clause-there c = c.law_lists_are_there.ensures c.args.types.now c.args.uses.now c.args.world.now (lists_of c.in_ok-lists.lists) c.in_ok-lists.ensures c.requires.owners c.requires.interfaces c.requires.uses

pub returns-clause-ok : goal.returns-clause-ok
returns-clause-ok c =
    let lists = lists_of c.in_ok-lists.lists in
    let there = c.law_lists_are_there.ensures c.args.types.now c.args.uses.now c.args.world.now lists c.in_ok-lists.ensures c.requires.owners c.requires.interfaces c.requires.uses in
    IfOk-weaker c.elaborate.result
    (λ order. IsElaboration c.args.uses.now lists order.items)
    (λ order. ((i : ℕ) → Has order.items i → i < length c.args.uses.now) × ((x : Lists) × AreListsOf c.args.types.now (Uses c.args.uses.now) c.args.world.now x × IsElaboration c.args.uses.now x order.items))
    (λ order e. (c.law_elaborated_are_there.ensures c.args.uses.now lists order.items there c.requires.uses e, (lists, c.in_ok-lists.ensures, e)))
    c.elaborate.ensures.ok
