use Rattle.std.proofs.Common.{ap, ◌∙◌, is_some}
use Rattle.name_places.proofs.Places.{place-is_some}
use Rattle.wit_checked_lookups.proofs.names.has_name.Goals as goal

pub returns : goal.returns
returns c = c.is_some.ensures ∙ ap is_some c.first.ensures ∙ place-is_some c.args.name.now c.args.names.now
