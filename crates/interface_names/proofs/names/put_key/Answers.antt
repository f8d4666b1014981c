use Rattle.std.proofs.Common.{subst}
use Rattle.std.specs.Prelude.{option_map, string_bytes}
use Rattle.core_links.specs.Names.{names_in}
use Rattle.wit_types.specs.Package.{interface_text}
use Rattle.wit_names.specs.Names.{IsKeyText}
use Rattle.interface_names.specs.Found.{its_text}
use Rattle.interface_names.proofs.names.put_key.Goals as goal

pub returns-in-Some : goal.returns-in-Some
returns-in-Some c =
    let n = names_in c.args.names.now in
    its_text (string_bytes c.in-Some.text) (subst (λ s. IsKeyText interface_text n.known.packages n.known.interfaces c.args.key.now (option_map string_bytes s)) c.in-Some.is c.in_ok-text.ensures) c.put.ensures
