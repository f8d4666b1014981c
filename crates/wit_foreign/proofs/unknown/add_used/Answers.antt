use Rattle.std.proofs.Common.{ap}
use Rattle.std.specs.Prelude.{option_map}
use Rattle.wit_lookups.specs.Passed.wit_syntax-AstView as view
use Rattle.wit_foreign.specs.Unknown.{no_type}
use Rattle.wit_foreign.proofs.unknown.add_used.Goals as goal

pub add_named-requires-clause-interface : goal.add_named-requires-clause-interface
add_named-requires-clause-interface c = c.requires (view.id c.in-Some.name) (ap (option_map view.id) c.in-Some.is)

pub returns-in-None : goal.returns-in-None
returns-in-None c = no_type (ap (option_map view.id) c.in-None.is)
