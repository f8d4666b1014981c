use Rattle.std.proofs.Common.{◌≡◌, ◌<◌, ◌∙◌, sym, ap, arith, subst, length}
use Rattle.std.specs.Prelude.{filter}
use Rattle.command_line.specs.Line.{HasFields, Fits, is_text, is_component}
use Rattle.command_line.proofs.LineWords.{same_fit}
use Rattle.command_line.proofs.line.read_line.Goals as goal
use Rattle.command_line.proofs.line.read_line.Goals.{then-texts_in-eq0-via-then-texts_in-eq0, then-texts_in-eq0-via-else-texts_in-eq0+then-components_in-wanted}

pub returns-then-texts_in-eq0-clause-err : goal.returns-then-texts_in-eq0-clause-err
returns-then-texts_in-eq0-clause-err c = (
  c.in_ok-found.ensures.taken,
  λ other right.
      let line = c.in_ok-line.line in
      let fields = subst (λ rows. HasFields rows line) c.in_ok-found.ensures.ok c.in_ok-line.ensures.ok in
      let fit : Fits line = same_fit _ other line right.fields fields right.fits in
      elim c.then-texts_in-eq0.branch [
        | then-texts_in-eq0-via-then-texts_in-eq0 w ↦
            let none : 0 ≡ length (filter is_text line.inputs.items) = sym w.if-texts_in-eq0.true ∙ c.texts_in.ensures ∙ ap (λ is. length (filter is_text is)) c.deref.ensures.value in
            let some : 0 < length (filter is_text line.inputs.items) = fit.0 in
            absurd (omega arith)
        | then-texts_in-eq0-via-else-texts_in-eq0+then-components_in-wanted w ↦
            let count = w.components_in.ensures ∙ ap (λ is. length (filter is_component is)) w.deref-else-texts_in-eq0.ensures.value in
            w.if-components_in-wanted.true (count ∙ fit.1 ∙ sym w.wanted.ensures)
      ],
)
