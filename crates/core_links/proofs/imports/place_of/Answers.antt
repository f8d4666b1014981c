use Rattle.std.proofs.Common.{Some, sym, subst, ap, ◌∙◌}
use Rattle.wasm_types.specs.Entries.{import_value}
use Rattle.core_links.specs.Imports.{IsMeaning}
use Rattle.core_links.specs.Names.{names_in, counts_legacy}
use Rattle.core_links.proofs.Meanings.{one_means, several_mean, nothing_means}
use Rattle.core_links.proofs.imports.place_of.Goals as goal

pub unknown-requires-clause-none : goal.unknown-requires-clause-none
unknown-requires-clause-none c =
    let n = names_in c.args.names.now in
    nothing_means n (import_value c.args.«import».now) c.read.result (c.read.ensures n.known n.world (counts_legacy n) c.requires.reader) c.in-None.is

pub returns-in-Some-One-clause-means : goal.returns-in-Some-One-clause-means
returns-in-Some-One-clause-means c =
    let n = names_in c.args.names.now in
    let i = import_value c.args.«import».now in
    subst (IsMeaning n i) (sym c.in-Some-One.place-is)
    (one_means n i c.read.result (c.read.ensures n.known n.world (counts_legacy n) c.requires.reader) c.in-Some-One.place (sym c.is_outer_memory.ensures ∙ c.if-is_outer_memory.false) (c.in-Some-One.is ∙ ap Some c.in-Some-One.field-0-is))

pub returns-in-Some-Ambiguous-clause-cause : goal.returns-in-Some-Ambiguous-clause-cause
returns-in-Some-Ambiguous-clause-cause c =
    let n = names_in c.args.names.now in
    several_mean n (import_value c.args.«import».now) c.read.result (c.read.ensures n.known n.world (counts_legacy n) c.requires.reader) (c.in-Some-Ambiguous.is ∙ ap Some c.in-Some-Ambiguous.field-0-is)
