use Rattle.std.proofs.lemmas.Result.{err_from_is_err_and}
use Rattle.wit_core_names.specs.Items.{export_of}
use Rattle.core_links.specs.Names.{names_in}
use Rattle.core_links.proofs.Found.{standard_cause, older_cause, one_placed}
use Rattle.core_links.proofs.exports.ExportNames.place.Goals as goal

pub returns-in_err-found-clause-cause : goal.returns-in_err-found-clause-cause
returns-in_err-found-clause-cause c es l =
    let moved = err_from_is_err_and c.from_residual.result c.from_residual.ensures.1 in
    rw (moved.1, moved.2) (standard_cause (names_in c.args.names.now) es (export_of c.args.«export».now) c.in_err-found.field-0.0 (c.in_err-found.ensures.cause es l))

pub returns-in_err-other-clause-cause : goal.returns-in_err-other-clause-cause
returns-in_err-other-clause-cause c es l =
    let moved = err_from_is_err_and c.from_residual-in_err-other.result c.from_residual-in_err-other.ensures.1 in
    rw (moved.1, moved.2) (older_cause (names_in c.args.names.now) es (export_of c.args.«export».now) c.in_err-other.field-0.0 (c.in_err-other.ensures.cause es l))

pub returns-clause-place : goal.returns-clause-place
returns-clause-place c es l =
    (one_placed (names_in c.args.names.now) es (export_of c.args.«export».now) c.in_ok-found.found c.in_ok-other.other c.one_of.result (c.in_ok-found.ensures.found es l) (c.in_ok-other.ensures.found es l) c.one_of.ensures).0

pub returns-clause-cause : goal.returns-clause-cause
returns-clause-cause c es l =
    (one_placed (names_in c.args.names.now) es (export_of c.args.«export».now) c.in_ok-found.found c.in_ok-other.other c.one_of.result (c.in_ok-found.ensures.found es l) (c.in_ok-other.ensures.found es l) c.one_of.ensures).1
