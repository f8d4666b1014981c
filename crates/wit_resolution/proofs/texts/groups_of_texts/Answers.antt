use Rattle.std.proofs.Common.{◌≤◌, length, drop, arith, inr}
use Rattle.std.proofs.lemmas.List.{drop_all}
use Rattle.std.proofs.lemmas.Result.{err_from_is_err_and}
use Rattle.wit_well_formed.specs.Passed.wit_package-GroupView.{texts}
use Rattle.wit_resolution.proofs.Coming.{has_alone, all_came}
use Rattle.wit_resolution.proofs.texts.groups_of_texts.Goals as goal

pub returns-in_err-add_group_of-2-clause-cause : goal.returns-in_err-add_group_of-2-clause-cause
returns-in_err-add_group_of-2-clause-cause c =
    let p = err_from_is_err_and c.from_residual-in_err-add_group_of-2.result c.from_residual-in_err-add_group_of-2.ensures.1 in
    let unread = rw c.as_slice.ensures at c.in_err-add_group_of-2.ensures.cause in
    rw (p.1, p.2) (_, inr (has_alone c.args.deps.now c.loop-path.path-index _ c.loop-path-test.true), unread)

pub returns-clause-ok : goal.returns-clause-ok
returns-clause-ok c =
    let past : length c.args.deps.now ≤ c.loop-path.path-index = omega (arith, c.loop-path-test.false) in
    all_came (texts c.args.main.now) c.args.deps.now (drop c.loop-path.path-index c.args.deps.now) c.loop-path.groups.items c.loop-path.invariant (drop_all c.loop-path.path-index c.args.deps.now past)
