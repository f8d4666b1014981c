use Rattle.std.proofs.Common.{true, sym, ◌∙◌}
use Rattle.wasm_types.specs.Entries.{import_value}
use Rattle.core_links.specs.Names.{names_in}
use Rattle.core_links.proofs.Meanings.{legacy_alone, unknown_counting, unknown_anyway, rejects_from}
use Rattle.core_links.proofs.imports.unknown.Goals as goal

pub returns-then-counts_legacy : goal.returns-then-counts_legacy
returns-then-counts_legacy c =
    unknown_counting (names_in c.args.names.now) (import_value c.args.«import».now) c.requires.outside (sym c.counts_legacy.ensures ∙ c.if-counts_legacy.true) c.requires.none

pub returns-in-Some : goal.returns-in-Some
returns-in-Some c =
    let n = names_in c.args.names.now in
    legacy_alone n (import_value c.args.«import».now) c.read.result c.in-Some.field-0 (c.read.ensures n.known n.world true c.in-Ok.ensures) (rejects_from n (sym c.counts_legacy.ensures ∙ c.if-counts_legacy.false)) c.requires.none c.in-Some.is

pub returns-in-Ok : goal.returns-in-Ok
returns-in-Ok c =
    let n = names_in c.args.names.now in
    unknown_anyway n (import_value c.args.«import».now) c.read.result (c.read.ensures n.known n.world true c.in-Ok.ensures) c.requires.outside c.in-None.is
