use Rattle.std.proofs.Common.{◌∙◌, subst, sym}
use Rattle.wit_core_items.proofs.Naming.{import_has_name}
use Rattle.wit_core_names.specs.Imports.{IsImportNamed}
use Rattle.wit_core_names.specs.Items.{import_of}
use Rattle.wit_core_names.specs.Texts.{Known, known}
use Rattle.wit_resolution_rows.proofs.named.is_import_named.Goals as goal

pub returns : goal.returns
returns c = λ is.
    let x = import_of c.args.«import».now in
    subst (λ (k : Known). IsImportNamed k x) c.tables.ensures.tables (import_has_name (known c.tables.result) c.tables.ensures.known x c.requires (sym c.is_import_in.ensures ∙ is))
