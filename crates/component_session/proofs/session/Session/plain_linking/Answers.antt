use Rattle.std.proofs.Common.{sym, subst}
use Rattle.wasm_format.specs.Module.{module_value}
use Rattle.wasm_format.specs.Grammar.{IsModule}
use Rattle.component_session.proofs.Linked.{read_is}
use Rattle.component_session.proofs.session.Session.plain_linking.Goals as goal

pub invariant_of-result : goal.invariant_of-result
invariant_of-result c = record { reads = read_is c.args.main.bytes.now (module_value c.args.main.core) (subst (λ b. IsModule b (module_value c.args.main.core)) (sym c.requires.main.bytes_are) c.requires.main.reads) }
