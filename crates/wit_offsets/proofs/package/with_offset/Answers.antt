use Rattle.std.proofs.Common.{false, sym, ◌∙◌, inl, inr}
use Rattle.std.proofs.lemmas.Bool.{false≢true}
use Rattle.wit_offsets.specs.Offsets.{Passes, package_spans, span_at}
use Rattle.wit_offsets.specs.Walks.{span_within}
use Rattle.wit_offsets.proofs.Same.{of_package}
use Rattle.wit_offsets.proofs.Fitting.{all_fit, one_passes}
use Rattle.wit_offsets.proofs.package.with_offset.Goals as goal

pub returns-then-shift-clause-cause : goal.returns-then-shift-clause-cause
returns-then-shift-clause-cause c =
    let noted = one_passes c.args.offset (package_spans c.args.package) false (sym c.move_package-moved.ensures.passes ∙ c.if-shift.true) in
    elim noted as (λ _. Passes c.args.offset c.args.package) [ inl e ↦ absurd (false≢true e) | inr one ↦ one ]

pub returns-clause-ok : goal.returns-clause-ok
returns-clause-ok c =
    let n = c.args.offset in
    let all = all_fit n (package_spans c.args.package) false (sym c.move_package-moved.ensures.passes ∙ c.if-shift.false) in
    c.move_package-moved.ensures.moved ∙ of_package (span_within n) (span_at n) c.args.package all.2

pub returns-clause-small : goal.returns-clause-small
returns-clause-small c = (all_fit c.args.offset (package_spans c.args.package) false (sym c.move_package-moved.ensures.passes ∙ c.if-shift.false)).1
