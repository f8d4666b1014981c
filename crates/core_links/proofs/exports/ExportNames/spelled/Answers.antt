use Rattle.std.proofs.Common.{sym, subst}
use Rattle.wit_core_names.specs.Exports.{IsExportName}
use Rattle.wit_core_names.specs.Items.{export_of}
use Rattle.core_links.specs.Names.{names_in}
use Rattle.core_links.proofs.Found.{spelled_ok, spelled_err}
use Rattle.core_links.proofs.exports.ExportNames.spelled.Goals as goal

pub returns-clause-found : goal.returns-clause-found
returns-clause-found c es l =
    let n = names_in c.args.names.now in
    let x = export_of c.args.«export».now in
    spelled_ok n es x c.args.mangling c.as_str.result.now c.named.result (subst (IsExportName c.args.mangling n.known x) (sym c.as_str.ensures.value) c.in_ok-name.ensures) (c.named.ensures.found n es l)

pub returns-clause-cause : goal.returns-clause-cause
returns-clause-cause c es l =
    let n = names_in c.args.names.now in
    let x = export_of c.args.«export».now in
    spelled_err n es x c.args.mangling c.as_str.result.now c.named.result (subst (IsExportName c.args.mangling n.known x) (sym c.as_str.ensures.value) c.in_ok-name.ensures) (c.named.ensures.cause n es l)
