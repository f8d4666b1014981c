use Rattle.std.proofs.Common.{map}
use Rattle.std.specs.Prelude.{string_bytes}
use Rattle.component_encoding.proofs.component.component_of.Goals as goal

pub returns-in-Ok-clause-right : goal.returns-in-Ok-clause-right
returns-in-Ok-clause-right c = λ is listed.
    (c.in-Ok.ensures.right (map string_bytes c.args.names.now) is c.requires.names (c.in_ok-imports.ensures.written is)).0 (c.in_ok-imports.ensures.listed listed.named listed.listed)

pub returns-in-Ok-clause-placed : goal.returns-in-Ok-clause-placed
returns-in-Ok-clause-placed c = λ apart differ.
    (c.in-Ok.ensures.right (map string_bytes c.args.names.now) c.requires.table c.requires.names (c.in_ok-imports.ensures.written c.requires.table)).1 (c.in_ok-imports.ensures.placed apart) differ
