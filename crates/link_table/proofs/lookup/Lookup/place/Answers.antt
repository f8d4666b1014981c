use Rattle.link_table.specs.Linking.{linking_value}
use Rattle.link_table.proofs.lookup.Lookup.place.Goals as goal

pub returns-clause-cause : goal.returns-clause-cause
returns-clause-cause c = c.place.ensures.cause (linking_value c.args.self.now.linking).main.exports c.requires.lookup.names_are
