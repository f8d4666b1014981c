use Rattle.std.proofs.lemmas.Result.{on_ok_weaker}
use Rattle.wit_plans.proofs.Adding.{world_in, world_out}
use Rattle.wit_plans.proofs.moves.add_world.Goals as goal

pub returns-in-Some : goal.returns-in-Some
returns-in-Some c =
    on_ok_weaker c.add_moved.result (λ added. world_in c.args.features.now c.args.standing.now c.args.world c.in-Some.world c.keeps-stays.result c.kept.result c.args.found.now.items c.add_moved.new.found.items c.keeps-stays.ensures c.kept.ensures c.in-Some.is added) c.add_moved.ensures

pub returns-in-None : goal.returns-in-None
returns-in-None c = world_out c.args.features.now c.args.standing.now c.args.world c.keeps-stays.result c.kept.result c.args.found.now.items c.keeps-stays.ensures c.kept.ensures c.in-None.is
