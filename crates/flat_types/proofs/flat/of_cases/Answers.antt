use Rattle.std.proofs.Common.{◌≡◌, ◌∙◌, ap, subst, map}
use Rattle.std.specs.Prelude.{IfOk}
use Rattle.flat_types.specs.Flats.{FlatValue, part_flat}
use Rattle.flat_types.specs.Gathered.{numbered}
use Rattle.flat_types.specs.View.{flat_value, known_value}
use Rattle.flat_types.specs.declared.known.Flat.{Flat}
use Rattle.flat_types.proofs.Gathering.{cases_step, cases_end}
use Rattle.flat_types.proofs.flat.of_cases.Goals as goal

pub loop-case-preserved : goal.loop-case-preserved
loop-case-preserved g c =
    c.in_ok-join.ensures
    ∙ cases_step (λ (p : g.row.P.Denot). part_flat (map flat_value c.args.known.now) (g.P.Part.part p)) c.args.cases.now c.loop-case.case-index c.case-item.result c.loop-case-test.true c.case-item.is
    (flat_value c.loop-case.payload) (known_value c.of_part.result) c.loop-case.invariant (c.of_part.ensures ∙ ap (part_flat (map flat_value c.args.known.now)) c.ty.ensures)

pub returns : goal.returns
returns g c =
    subst (λ (v : FlatValue). IfOk c.with_number.result (λ (f : Flat). flat_value f ≡ numbered v))
    (cases_end (λ (p : g.row.P.Denot). part_flat (map flat_value c.args.known.now) (g.P.Part.part p)) c.args.cases.now c.loop-case.case-index c.loop-case-test.false (flat_value c.loop-case.payload) c.loop-case.invariant)
    c.with_number.ensures
