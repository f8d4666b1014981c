use Rattle.std.proofs.Common.{arith, ◌∙◌}
use Rattle.wit_checked_files.proofs.Checking.{names_kept, name_within, name_breaks}
use Rattle.wit_checked_files.proofs.checked.check_names.Goals as goal

pub returns-in-None-clause-ok : goal.returns-in-None-clause-ok
returns-in-None-clause-ok c = names_kept c.args.names.now c.as_slice.result.now c.loop-name.name-index (c.as_slice.ensures.value ∙ c.loop-name.invariant) (omega (arith, c.loop-name-test.false)) (rw c.in-None.is at c.in_ok-first_repeat.ensures)

pub again-requires : goal.again-requires
again-requires c = name_within c.args.names.now c.as_slice.result.now c.loop-name.name-index (c.as_slice.ensures.value ∙ c.loop-name.invariant) (omega (arith, c.loop-name-test.false)) c.in-Some.place (rw c.in-Some.is at c.in_ok-first_repeat.ensures)

pub returns-clause-cause : goal.returns-clause-cause
returns-clause-cause c =
    name_breaks c.args.names.now c.as_slice.result.now c.loop-name.name-index (c.as_slice.ensures.value ∙ c.loop-name.invariant) (omega (arith, c.loop-name-test.false)) c.in-Some.place (rw c.in-Some.is at c.in_ok-first_repeat.ensures) c.again.result c.again.ensures.0 c.again.ensures.1 c.again.ensures.2
