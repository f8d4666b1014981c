use Rattle.std.proofs.Common.{arith, ◌∙◌, ap, map}
use Rattle.wit_checked_files.proofs.Checking.{paths_kept, path_within, path_breaks}
use Rattle.wit_checked_files.proofs.checked.check_paths.Goals as goal

pub returns-in-None-clause-ok : goal.returns-in-None-clause-ok
returns-in-None-clause-ok c = paths_kept c.args.paths.now c.as_slice.result.now c.loop-path.path-index (ap (map (λ t. t.now)) c.as_slice.ensures.value ∙ c.loop-path.invariant) (omega (arith, c.loop-path-test.false)) (rw c.in-None.is at c.in_ok-first_repeat.ensures)

pub again-requires : goal.again-requires
again-requires c = path_within c.args.paths.now c.as_slice.result.now c.loop-path.path-index (ap (map (λ t. t.now)) c.as_slice.ensures.value ∙ c.loop-path.invariant) (omega (arith, c.loop-path-test.false)) c.in-Some.place (rw c.in-Some.is at c.in_ok-first_repeat.ensures)

pub returns-clause-cause : goal.returns-clause-cause
returns-clause-cause c =
    path_breaks c.args.paths.now c.as_slice.result.now c.loop-path.path-index (ap (map (λ t. t.now)) c.as_slice.ensures.value ∙ c.loop-path.invariant) (omega (arith, c.loop-path-test.false)) c.in-Some.place (rw c.in-Some.is at c.in_ok-first_repeat.ensures) c.again.result c.again.ensures.0 c.again.ensures.1 c.again.ensures.2
