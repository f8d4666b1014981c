use Rattle.std.proofs.Common.{◌∙◌, map}
use Rattle.plain_worlds.specs.World.{function_item}
use Rattle.component_audit.proofs.Judged.{named_at, named_nowhere, places_named}
use Rattle.component_audit.proofs.auditor.Listed.find.Goals as goal

pub returns-in-Some : goal.returns-in-Some
returns-in-Some c =
    let fs = map function_item c.args.self.now.functions.now in
    c.at.ensures ∙ named_at c.args.name.now fs c.in-Some.place (c.in-Some.ensures ∙ places_named c.args.self.now.functions.now c.args.name.now c.args.self.now.places c.args.self.now.named)

pub returns-in-None : goal.returns-in-None
returns-in-None c =
    named_nowhere c.args.name.now (map function_item c.args.self.now.functions.now) (c.in-None.ensures ∙ places_named c.args.self.now.functions.now c.args.name.now c.args.self.now.places c.args.self.now.named)
