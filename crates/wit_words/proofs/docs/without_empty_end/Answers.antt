use Rattle.std.proofs.Common.{◌≡◌, ◌∙◌, sym, ap, arith, take, map}
use Rattle.wit_words.specs.Docs.{without_empty_end}
use Rattle.wit_words.proofs.DocLines.{end_goes, end_stays}
use Rattle.wit_words.proofs.docs.without_empty_end.Goals.{then-loop-end-test+else-is_empty, else-loop-end-test}
use Rattle.wit_words.proofs.docs.without_empty_end.Goals as goal

pub loop-end-preserved : goal.loop-end-preserved
loop-end-preserved c =
    (omega (arith, c.loop-end.invariant.0), c.loop-end.invariant.1 ∙ end_goes c.args.lines.now c.loop-end.«end» _ c.loop-end-test.true c.loop-end.invariant.0 (sym c.is_empty.ensures ∙ c.if-is_empty.true))

pub returns : goal.returns
returns c = elim c.loop-end-test.branch [
  | then-loop-end-test+else-is_empty w ↦ sym (c.loop-end.invariant.1 ∙ end_stays c.args.lines.now c.loop-end.«end» _ w.loop-end-test.true c.loop-end.invariant.0 (sym w.is_empty.ensures ∙ w.if-is_empty.false))
  | else-loop-end-test w ↦ (let none : c.loop-end.«end» ≡ 0 = omega (arith, w.loop-end-test.false) in
      ap (λ n. map (λ l. l.now) (take n c.args.lines.now)) none ∙ sym (c.loop-end.invariant.1 ∙ ap (λ n. without_empty_end (map (λ l. l.now) (take n c.args.lines.now))) none))
]
