use Rattle.std.proofs.Common.{inr, refl, arith}
use Rattle.wit_types.proofs.Dots.{no_dot, behind_first}
use Rattle.wit_types.proofs.function.behind_dot.Goals as goal

pub returns-in-Some : goal.returns-in-Some
returns-in-Some c =
    let s = c.in-Some.ensures.byte (omega arith) (λ w o h. h) in
    behind_first c.args.name.now c.in-Some.field-0-0.now c.in-Some.item.now s.2 s.0 s.1

pub returns-in-None : goal.returns-in-None
returns-in-None c =
    inr (no_dot c.args.name.now (c.in-None.ensures.byte (omega arith) (λ w o h. h)), refl)
