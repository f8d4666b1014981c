use Rattle.std.proofs.lemmas.Result.{on_ok_weaker}
use Rattle.wit_plans.proofs.Adding.{interface_if}
use Rattle.wit_plans.proofs.moves.add_interface.Goals as goal

pub returns : goal.returns
returns c =
    let placed = c.place_interface-stays in
    on_ok_weaker c.add_if.result (λ items. interface_if c.args.features.now c.args.standing.now c.args.owner c.args.interface placed.new.interface placed.result c.args.found.now.items c.add_if.new.found.items placed.ensures.stays placed.ensures.moved items) c.add_if.ensures
