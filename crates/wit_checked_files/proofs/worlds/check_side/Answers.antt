use Rattle.std.proofs.Common.{◌≡◌, List, map, take, arith, ap, ◌∙◌, subst}
use Rattle.std.proofs.lemmas.List.{take_all}
use Rattle.std.specs.Prelude.{flat_map}
use Rattle.wit_words.specs.Slice.{Slice}
use Rattle.wit_scopes.specs.declared.worlds.WorldMember.{WorldMember}
use Rattle.wit_scopes.specs.View as scope_view
use Rattle.wit_rules.specs.Breaks.{IsKept, NamesBreak, PathsBreak}
use Rattle.wit_rules.specs.Labels.{side_labels, side_paths}
use Rattle.wit_rules.specs.View as seen
use Rattle.wit_scopes.proofs.Outcomes.{on_ok}
use Rattle.wit_checked_files.proofs.Kept.{side_kept}
use Rattle.wit_checked_files.proofs.worlds.check_side.Goals as goal

pub returns-clause-ok : goal.returns-clause-ok
returns-clause-ok c =
    let all : take c.loop-member.member-index c.args.members.now ≡ c.args.members.now = take_all c.loop-member.member-index c.args.members.now (omega (arith, c.loop-member-test.false)) in
    let labels : map seen.label c.as_slice.result.now ≡ flat_map (side_labels c.args.side) (map scope_view.world_member c.args.members.now) =
    ap (map seen.label) c.as_slice.ensures.value ∙ c.loop-member.invariant.labels ∙ ap (λ (ms : List WorldMember). flat_map (side_labels c.args.side) (map scope_view.world_member ms)) all in
    let paths : map seen.label c.as_slice-2.result.now ≡ flat_map (side_paths c.args.side) (map scope_view.world_member c.args.members.now) =
    ap (map seen.label) c.as_slice-2.ensures.value ∙ c.loop-member.invariant.paths ∙ ap (λ (ms : List WorldMember). flat_map (side_paths c.args.side) (map scope_view.world_member ms)) all in
    on_ok c.check_paths.result
    (λ kept. side_kept c.args.side (map scope_view.world_member c.args.members.now) (subst (λ (ns : List Slice). IsKept (NamesBreak ns)) labels c.in_ok-check_names.ensures.ok) (subst (λ (ps : List Slice). IsKept (PathsBreak ps)) paths kept))
    c.check_paths.ensures.ok
