use Rattle.core_links.specs.Names.{names_in}
use Rattle.linked_components.proofs.component.links.Goals as goal

pub table_of-requires-clause-packages : goal.table_of-requires-clause-packages
table_of-requires-clause-packages c = (c.law_functions_are_there.ensures c.requires.0 c.requires.1 (names_in c.args.linking.now.names) c.requires.2 c.requires.3).packages

pub table_of-requires-clause-backward : goal.table_of-requires-clause-backward
table_of-requires-clause-backward c = (c.law_functions_are_there.ensures c.requires.0 c.requires.1 (names_in c.args.linking.now.names) c.requires.2 c.requires.3).backward

pub table_of-requires-clause-there : goal.table_of-requires-clause-there
table_of-requires-clause-there c = (c.law_functions_are_there.ensures c.requires.0 c.requires.1 (names_in c.args.linking.now.names) c.requires.2 c.requires.3).there

pub links-requires-clause-packages : goal.links-requires-clause-packages
links-requires-clause-packages c = (c.law_functions_are_there.ensures c.requires.0 c.requires.1 (names_in c.args.linking.now.names) c.requires.2 c.requires.3).packages

pub returns-clause-lines : goal.returns-clause-lines
returns-clause-lines c = (c.in_ok-table.ensures.table.table, c.in_ok-table.ensures.table.is, c.in_ok-links.ensures c.in_ok-table.ensures.table)
