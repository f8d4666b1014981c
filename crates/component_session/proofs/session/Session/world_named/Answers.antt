use Rattle.std.proofs.Common.{subst}
use Rattle.std.specs.Prelude.{option_map}
use Rattle.wit_component.proofs.Results.{ok_map}
use Rattle.linked_components.specs.Passed.wit_graph-Graph.{IsGraph}
use Rattle.component_session.proofs.Chosen.{chosen_there}
use Rattle.component_session.proofs.session.Session.world_named.Goals as goal

pub returns-clause-there : goal.returns-clause-there
returns-clause-there c =
    rw (← c.self.view_is)
    (ok_map c.select_world.result (λ id h. chosen_there c.self.inside.resolve.graph c.args.main.now (option_map (λ t. t.now) c.args.name) id (subst IsGraph c.graph.ensures c.law_is_graph.ensures) h) c.select_world.ensures.ok)
