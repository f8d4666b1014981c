use Rattle.std.proofs.Common.{◌≡◌, ℕ, List, sym, ◌∙◌}
use Rattle.link_table.specs.Linking.{linking_value}
use Rattle.link_table.specs.Options.{IsOwnReallocName}
use Rattle.link_table.proofs.Found.{if_found_by, if_unclear_by, own_from, own_back}
use Rattle.link_table.proofs.lookup.Lookup.own_realloc.Goals as goal

pub returns-clause-found : goal.returns-clause-found
returns-clause-found c =
    let l = linking_value c.args.self.now.linking in
    let name = c.own_realloc_name.result.now in
    let counts = sym c.counts_legacy.ensures ∙ c.if-not-counts_legacy.false in
    if_found_by l.names l.main.exports (λ (text : List ℕ). text ≡ name) (IsOwnReallocName l.names c.args.variant) (own_from l.names c.args.variant name counts c.own_realloc_name.ensures) (own_back l.names c.args.variant name counts c.own_realloc_name.ensures)
    c.named.result (c.named.ensures.found l.names l.main.exports c.requires.lookup.names_are)

pub returns-clause-cause : goal.returns-clause-cause
returns-clause-cause c =
    let l = linking_value c.args.self.now.linking in
    let name = c.own_realloc_name.result.now in
    let counts = sym c.counts_legacy.ensures ∙ c.if-not-counts_legacy.false in
    if_unclear_by l.names l.main.exports (λ (text : List ℕ). text ≡ name) (IsOwnReallocName l.names c.args.variant) (own_from l.names c.args.variant name counts c.own_realloc_name.ensures) (own_back l.names c.args.variant name counts c.own_realloc_name.ensures)
    c.named.result (c.named.ensures.cause l.names l.main.exports c.requires.lookup.names_are)
