use Rattle.std.proofs.Common.{sym, ◌∙◌}
use Rattle.wit_core_names.specs.Items.{export_of}
use Rattle.core_links.specs.Names.{names_in}
use Rattle.core_links.proofs.Found.{legacy_ok, legacy_err}
use Rattle.core_links.proofs.exports.ExportNames.legacy.Goals as goal

pub returns-clause-found : goal.returns-clause-found
returns-clause-found c es l =
    legacy_ok (names_in c.args.names.now) es (export_of c.args.«export».now) c.spelled.result (sym c.counts_legacy.ensures ∙ c.if-not-counts_legacy.false) (c.spelled.ensures.found es l)

pub returns-clause-cause : goal.returns-clause-cause
returns-clause-cause c es l =
    legacy_err (names_in c.args.names.now) es (export_of c.args.«export».now) c.spelled.result (sym c.counts_legacy.ensures ∙ c.if-not-counts_legacy.false) (c.spelled.ensures.cause es l)
