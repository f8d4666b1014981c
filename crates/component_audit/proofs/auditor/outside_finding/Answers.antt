use Rattle.std.proofs.Common.{arith, map, sym, ◌∙◌}
use Rattle.plain_worlds.specs.World.{function_item}
use Rattle.component_audit.specs.SpacesView.{import_entry}
use Rattle.component_audit.proofs.Judged.{outside_is, not_known, not_there, names_seen}
use Rattle.component_audit.proofs.auditor.outside_finding.Goals as goal

pub returns-in-Some : goal.returns-in-Some
returns-in-Some c =
    let found = c.in-Some.ensures c.args.length c.requires.within in
    (found.0, not_known (map function_item c.args.listed.now.functions.now) c.requires.distinct (map (λ f. function_item f.now) c.args.wanted.now) c.requires.among (map import_entry c.args.entries.now) found.1)

pub returns-then-not-are_there : goal.returns-then-not-are_there
returns-then-not-are_there c = (
  omega arith,
  not_there (map function_item c.args.listed.now.functions.now) c.requires.distinct (map (λ f. function_item f.now) c.args.wanted.now) c.requires.among (map import_entry c.args.entries.now)
      (sym (c.are_there.ensures ∙ names_seen c.args.entries.now c.in_ok-names.names (map (λ f. function_item f.now) c.args.wanted.now) c.in_ok-names.ensures) ∙ c.if-not-are_there.true),
)

pub returns : goal.returns
returns c =
    outside_is (map function_item c.args.listed.now.functions.now) c.requires.distinct (map (λ f. function_item f.now) c.args.wanted.now) c.requires.among (map import_entry c.args.entries.now)
    (c.in_default.ensures c.args.length c.requires.within)
    (sym (c.are_there.ensures ∙ names_seen c.args.entries.now c.in_ok-names.names (map (λ f. function_item f.now) c.args.wanted.now) c.in_ok-names.ensures) ∙ c.if-not-are_there.false)
