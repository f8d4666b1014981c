use Rattle.std.proofs.Common.{inl, inr, refl, map}
use Rattle.std.proofs.lemmas.Result.{err_from_is_err_and}
use Rattle.std.specs.Prelude.{string_bytes}
use Rattle.core_links.specs.Names.{names_in}
use Rattle.encodable_worlds.specs.Passed.link_table-Linking.{linking_value}
use Rattle.linked_components.proofs.component.build.Goals as goal

pub table_of-requires-clause-packages : goal.table_of-requires-clause-packages
table_of-requires-clause-packages c = (c.law_functions_are_there.ensures c.requires.tables c.args.world (names_in c.args.linking.now.names) c.requires.whole c.requires.names_are).packages

pub table_of-requires-clause-backward : goal.table_of-requires-clause-backward
table_of-requires-clause-backward c = (c.law_functions_are_there.ensures c.requires.tables c.args.world (names_in c.args.linking.now.names) c.requires.whole c.requires.names_are).backward

pub table_of-requires-clause-there : goal.table_of-requires-clause-there
table_of-requires-clause-there c = (c.law_functions_are_there.ensures c.requires.tables c.args.world (names_in c.args.linking.now.names) c.requires.whole c.requires.names_are).there

pub interface_names-requires-clause-there : goal.interface_names-requires-clause-there
interface_names-requires-clause-there c = c.law_imports_are_there.ensures c.requires.tables c.args.world (names_in c.args.linking.now.names) c.requires.whole c.requires.names_are
