use Rattle.type_sinks.proofs.RootImports.{imports_named}
use Rattle.type_sinks.proofs.law.law_imports_are_named.Goals as goal

pub returns : goal.returns
returns c = imports_named
