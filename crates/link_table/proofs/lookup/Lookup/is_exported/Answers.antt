use Rattle.std.proofs.Common.{subst}
use Rattle.core_links.specs.Exports.{IsExportCause}
use Rattle.wit_core_names.specs.Items.{export_of}
use Rattle.link_table.specs.Linking.{linking_value}
use Rattle.link_table.specs.Options.{NamesOf}
use Rattle.link_table.proofs.Found.{at_somewhere, unclear_somewhere}
use Rattle.link_table.proofs.lookup.Lookup.is_exported.Goals as goal

pub returns-in-Ok-clause-yes : goal.returns-in-Ok-clause-yes
returns-in-Ok-clause-yes c = λ e.
    let l = linking_value c.args.self.now.linking in
    at_somewhere l (NamesOf l.names (export_of c.args.«export».now)) c.in-Ok._place c.in-Ok.ensures.place

pub returns-in-Err-Ambiguous-clause-yes : goal.returns-in-Err-Ambiguous-clause-yes
returns-in-Err-Ambiguous-clause-yes c = λ e.
    let l = linking_value c.args.self.now.linking in
    unclear_somewhere l (NamesOf l.names (export_of c.args.«export».now)) (subst (IsExportCause l.names l.main.exports (export_of c.args.«export».now)) c.in-Err-Ambiguous.field-0-is c.in-Err-Ambiguous.ensures.cause)
