use Rattle.std.proofs.Common.{Some, sym, ap, ◌∙◌}
use Rattle.std.specs.Prelude.{option_map}
use Rattle.core_links.specs.Names.{names_in}
use Rattle.linked_imports.proofs.Found.{found_in_interface}
use Rattle.linked_imports.proofs.imports.interface_function.Goals as goal

pub returns : goal.returns
returns c =
    let e = c.in-Some-default-Interface in
    let f = c.in_ok-function in
    found_in_interface (names_in c.args.names.now) c.args.entry c.args.function e.field-0-0.now e.id e.field-0-1-1 e.field-0-1-2 c.get-interface.result.now f.function.now c.len-count.ensures.unique
    (sym e.ensures.entry ∙ ap (λ x. Some (e.field-0-0.now, x)) e.field-0-1-is) c.get-interface.ensures (sym (ap (option_map (λ x. x.1)) f.ensures.entry))
