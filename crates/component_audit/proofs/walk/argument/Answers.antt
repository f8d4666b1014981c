use Rattle.component_audit.proofs.Named.{argument_found, argument_missing}
use Rattle.component_audit.proofs.walk.argument.Goals as goal

pub returns-in-Some : goal.returns-in-Some
returns-in-Some c = argument_found c.args.args.now c.args.places.now c.requires c.args.name.now c.in-Some.place c.instance_at.result c.in-Some.ensures c.instance_at.ensures

pub returns-in-None : goal.returns-in-None
returns-in-None c = argument_missing c.args.args.now c.args.places.now c.requires c.args.name.now c.in-None.ensures
