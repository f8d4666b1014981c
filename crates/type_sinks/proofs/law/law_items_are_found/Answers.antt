use Rattle.type_sinks.proofs.Names.{items_found, entries_apart}
use Rattle.type_sinks.proofs.law.law_items_are_found.Goals as goal

pub returns : goal.returns
returns c = record { items = items_found; entries = entries_apart }
