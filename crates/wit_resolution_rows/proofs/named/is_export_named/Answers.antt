use Rattle.std.proofs.Common.{◌∙◌, subst, sym}
use Rattle.wit_core_items.proofs.Naming.{export_has_name}
use Rattle.wit_core_names.specs.Exports.{IsExportNamed}
use Rattle.wit_core_names.specs.Items.{export_of}
use Rattle.wit_core_names.specs.Texts.{Known, known}
use Rattle.wit_resolution_rows.proofs.named.is_export_named.Goals as goal

pub returns : goal.returns
returns c = λ is.
    let x = export_of c.args.«export».now in
    subst (λ (k : Known). IsExportNamed k x) c.tables.ensures.tables (export_has_name (known c.tables.result) c.tables.ensures.known x (sym c.is_export_in.ensures ∙ is))
