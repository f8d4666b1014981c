use Rattle.std.proofs.Common.{◌++◌, ◌∷◌, [], sym, subst, take, get_or, List, Bool, ℕ}
use Rattle.std.proofs.lemmas.List.{take_more}
use Rattle.generated_modules.proofs.Marks.{Marked, one_more}
use Rattle.generated_modules.proofs.named.marks_at.Goals as goal

pub loop-function-preserved : goal.loop-function-preserved
loop-function-preserved c =
    let gs = c.args.named.now in
    let i = c.loop-function.function-index in
    subst (λ (l : List ℕ). Marked c.args.count l c.mark.new.marks.items) (sym (take_more gs i 0 c.loop-function-test.true))
    (subst (λ (m : List Bool). Marked c.args.count (take i gs ++ get_or gs i 0 ∷ []) m) (sym c.mark.ensures)
    (one_more c.args.count (take i gs) c.loop-function.marks.items (get_or gs i 0) c.loop-function.invariant))
