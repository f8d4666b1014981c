use Rattle.std.proofs.Common.{List, map, ap, ◌∙◌, subst}
use Rattle.wit_words.specs.Slice.{Slice}
use Rattle.wit_scopes.specs.View as scope_view
use Rattle.wit_rules.specs.Breaks.{IsKept, NamesBreak}
use Rattle.wit_rules.specs.Facts.{MemberBreaks}
use Rattle.wit_rules.specs.View as seen
use Rattle.wit_rules.proofs.Breaking.{viewed_kept}
use Rattle.wit_scopes.proofs.Outcomes.{on_ok}
use Rattle.wit_checked_files.proofs.Kept.{members_kept}
use Rattle.wit_checked_files.proofs.members.check_members.Goals as goal

pub returns-clause-ok : goal.returns-clause-ok
returns-clause-ok c =
    on_ok c.check_names.result
    (λ kept. members_kept (scope_view.members c.args.members.now) (viewed_kept MemberBreaks scope_view.member c.args.members.now c.in_ok-check_all.ensures.ok) (subst (λ (ns : List Slice). IsKept (NamesBreak ns)) (ap (map seen.label) c.as_slice.ensures ∙ c.in_ok-names.ensures) kept))
    c.check_names.ensures.ok
