use Rattle.std.proofs.Common.{◌≤◌, List, length, subst, arith}
use Rattle.std.proofs.lemmas.Result.{err_from_is_err_and}
use Rattle.wit_words.specs.Sources.{SourceText}
use Rattle.wit_package.specs.Group.{AreRead}
use Rattle.wit_package.specs.GroupView as seen
use Rattle.wit_package.proofs.Reading.{next_map, next_beginning, left_at, read_fault, all_taken}
use Rattle.wit_package.proofs.group.read_texts.Goals as goal

pub returns-in_err-add_text-clause-beginning : goal.returns-in_err-add_text-clause-beginning
returns-in_err-add_text-clause-beginning c = next_beginning c.args.texts.now c.loop-path.path-index _ c.loop-path-test.true c.loop-path.map c.add_text.new.map c.loop-path.invariant.0 c.in_err-add_text.field-0.0 c.in_err-add_text.ensures.left

pub returns-in_err-add_text-clause-left : goal.returns-in_err-add_text-clause-left
returns-in_err-add_text-clause-left c =
    let p = err_from_is_err_and c.from_residual.result c.from_residual.ensures.1 in
    rw (p.1, p.2) (left_at c.args.texts.now c.loop-path.path-index _ c.loop-path-test.true c.loop-path.map c.add_text.new.map c.loop-path.invariant.0 c.in_err-add_text.field-0.0 c.in_err-add_text.ensures.cause c.in_err-add_text.ensures.left)

pub returns-in_err-add_text-clause-cause : goal.returns-in_err-add_text-clause-cause
returns-in_err-add_text-clause-cause c =
    let p = err_from_is_err_and c.from_residual.result c.from_residual.ensures.1 in
    rw (p.1, p.2) (read_fault c.args.texts.now c.loop-path.path-index _ c.loop-path-test.true c.loop-path.map c.loop-path.invariant.0 c.in_err-add_text.field-0.0 c.in_err-add_text.ensures.cause)

pub loop-path-preserved : goal.loop-path-preserved
loop-path-preserved c = (next_map c.args.texts.now c.loop-path.path-index _ c.loop-path-test.true c.loop-path.map c.add_text.new.map c.loop-path.invariant.0 c.in_ok-add_text.ensures.added, c.in_ok-add_text.ensures.read)

pub returns-clause-read : goal.returns-clause-read
returns-clause-read c =
    let past : length c.args.texts.now ≤ c.loop-path.path-index = omega (arith, c.loop-path-test.false) in
    subst (λ (ts : List SourceText). AreRead ts (seen.trees c.loop-path.files.items)) (all_taken c.args.texts.now c.loop-path.path-index c.loop-path.map past c.loop-path.invariant.0) c.loop-path.invariant.1

pub returns-clause-all : goal.returns-clause-all
returns-clause-all c =
    let past : length c.args.texts.now ≤ c.loop-path.path-index = omega (arith, c.loop-path-test.false) in
    all_taken c.args.texts.now c.loop-path.path-index c.loop-path.map past c.loop-path.invariant.0
