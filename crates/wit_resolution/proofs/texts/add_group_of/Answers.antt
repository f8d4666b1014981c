use Rattle.std.proofs.lemmas.Result.{err_from_is_err_and}
use Rattle.std.proofs.Common.{◌∷◌, ◌++◌, [], ◌≡◌}
use Rattle.std.specs.Prelude.{IfErr, OnOk}
use Rattle.wit_well_formed.specs.Passed.wit_package-GroupView.{texts}
use Rattle.wit_well_formed.specs.Passed.wit_package-declared-group-UnresolvedPackageGroup.{UnresolvedPackageGroup}
use Rattle.wit_well_formed.specs.Passed.wit_package-Group.{of_nowhere}
use Rattle.wit_resolution.specs.Texts.{IsGroupOf, IsUnread}
use Rattle.wit_resolution.proofs.texts.add_group_of.Goals as goal
use Rattle.wit_resolution.proofs.texts.add_group_of.Goals.{in-Ok, in-Err}

pub returns-clause-ok : goal.returns-clause-ok
returns-clause-ok c =
    elim c.match-push.branch as (λ _. OnOk c.match-push.result ((x : UnresolvedPackageGroup) × IsGroupOf (texts c.args.files.now) x × (c.push.new.self.items ≡ c.args.groups.now.items ++ x ∷ []))) [
      | in-Ok w ↦ rw w.result-is (c.in_ok-group.group, record { parsed = c.in_ok-group.ensures.ok; texts = c.in_ok-group.ensures.all }, w.in-Ok.ensures.items)
      | in-Err w ↦ rw w.result-is tt
    ]

pub returns-clause-cause : goal.returns-clause-cause
returns-clause-cause c =
    elim c.match-push.branch as (λ _. IfErr c.match-push.result (λ e. IsUnread (texts c.args.files.now) e.0 e.1)) [
      | in-Ok w ↦ rw w.result-is tt
      | in-Err w ↦ rw w.result-is (record { beginning = (0, w.new.ensures); left = of_nowhere tt (0, w.new.ensures); cause = tt })
    ]

pub returns-in_err-group-clause-cause : goal.returns-in_err-group-clause-cause
returns-in_err-group-clause-cause c =
    let p = err_from_is_err_and c.from_residual.result c.from_residual.ensures.1 in
    rw (p.1, p.2) (record { beginning = c.in_err-group.ensures.beginning; left = c.in_err-group.ensures.left; cause = c.in_err-group.ensures.cause })
