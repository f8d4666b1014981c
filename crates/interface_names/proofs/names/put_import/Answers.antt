use Rattle.std.proofs.Common.{sym, ap, subst, ◌∙◌}
use Rattle.std.specs.Prelude.{Some}
use Rattle.core_links.specs.Names.{names_in}
use Rattle.linked_types.proofs.Walks.{has_at}
use Rattle.wit_types.specs.declared.world.WorldItem.TheVariants as item
use Rattle.interface_names.specs.Names.{IsImportThere}
use Rattle.interface_names.proofs.names.put_import.Goals as goal

pub put_key-requires-clause-there : goal.put_key-requires-clause-there
put_key-requires-clause-there c =
    let n = names_in c.args.names.now in
    let e = c.in-Some-default-Interface in
    subst (IsImportThere n e.key.now) (sym c.index.ensures)
    (c.requires.there.interfaces e.key.now e.id e.field-0-1-1 e.field-0-1-2
    (has_at n.world.imports.entries c.args.entry (e.key.now, item.Interface e.id e.field-0-1-1 e.field-0-1-2) (sym e.ensures.entry ∙ ap (λ x. Some (e.key.now, x)) e.field-0-1-is)))
