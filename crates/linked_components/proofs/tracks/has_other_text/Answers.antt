use Rattle.std.proofs.Common.{Some, sym, ap, ◌∙◌}
use Rattle.core_links.specs.Names.{names_in}
use Rattle.wit_types.specs.declared.world_key.WorldKey.TheVariants as key
use Rattle.linked_components.proofs.Others.{import_there}
use Rattle.linked_components.proofs.tracks.has_other_text.Goals as goal

pub id_of-requires-clause-there : goal.id_of-requires-clause-there
id_of-requires-clause-there c =
    let e = c.in-Some-Interface-Interface in
    import_there (names_in c.args.names.now) c.args.entry e.id e.field-0-1-0 e.field-0-1-1 e.field-0-1-2 c.requires
    (sym e.ensures.entry ∙ ap (λ k. Some (k, e.field-0-1.now)) e.field-0-0-is ∙ ap (λ x. Some (key.Interface e.id, x)) e.field-0-1-is)

pub canonicalized_id_of-requires-clause-there : goal.canonicalized_id_of-requires-clause-there
canonicalized_id_of-requires-clause-there c =
    let e = c.in-Some-Interface-Interface in
    import_there (names_in c.args.names.now) c.args.entry e.id e.field-0-1-0 e.field-0-1-1 e.field-0-1-2 c.requires
    (sym e.ensures.entry ∙ ap (λ k. Some (k, e.field-0-1.now)) e.field-0-0-is ∙ ap (λ x. Some (key.Interface e.id, x)) e.field-0-1-is)
