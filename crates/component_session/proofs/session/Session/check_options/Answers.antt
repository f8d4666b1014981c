use Rattle.std.proofs.Common.{ap, ◌∙◌}
use Rattle.linked_components.specs.Passed.link_table-Linking.{linking_value}
use Rattle.component_session.specs.Refusals.{OptionsBeyond}
use Rattle.component_session.proofs.Linked.{some_pairs}
use Rattle.component_session.proofs.Refusals.{options_cause_is}
use Rattle.component_session.proofs.session.Session.check_options.Goals.{then-branch-via-then-branch, then-branch-via-else-branch+in_ok-tracks_meet+then-branch-2}
use Rattle.component_session.proofs.session.Session.check_options.Goals as goal

pub returns-then-not-is_empty-clause-cause : goal.returns-then-not-is_empty-clause-cause
returns-then-not-is_empty-clause-cause c =
    let is = c.behind-self.view_is ∙ c.options.ensures in
    options_cause_is c.args.self.now (linking_value c.args.linking.now) c.requires.linking c.requires.wide
    (OptionsBeyond.by_given_names (λ none. some_pairs c.behind-self.inside.import_name_map.entries (ap (λ o. o.import_name_map) is ∙ none) c.is_empty.result c.is_empty.ensures c.if-not-is_empty.true))

pub returns-then-branch-clause-cause : goal.returns-then-branch-clause-cause
returns-then-branch-clause-cause c =
    let l = linking_value c.args.linking.now in
    options_cause_is c.args.self.now l c.requires.linking c.requires.wide
    (elim c.then-branch.branch as (λ _. OptionsBeyond c.args.self.now) [
      | then-branch-via-then-branch w ↦ OptionsBeyond.by_canonical_names l c.requires.linking (c.in_ok-names_change.ensures.yes w.if-branch.true)
      | then-branch-via-else-branch+in_ok-tracks_meet+then-branch-2 w ↦ OptionsBeyond.by_tracks l c.requires.linking (w.in_ok-tracks_meet.ensures.yes w.if-branch-2.true)
    ])
