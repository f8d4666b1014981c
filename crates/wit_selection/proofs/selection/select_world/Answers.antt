use Rattle.std.proofs.Common.{List, ℕ, Option, sym, subst, IfErr}
use Rattle.std.specs.Borrow.{Bor}
use Rattle.std.specs.Prelude.{option_map}
use Rattle.wit_selection.specs.Selection as spec
use Rattle.wit_selection.proofs.selection.select_world.Goals as goal

pub returns-in-Some-clause-cause : goal.returns-in-Some-clause-cause
returns-in-Some-clause-cause c =
    subst (λ (n : Option (Bor (List ℕ))). IfErr c.world_named.result (spec.IsSelectCause c.args.packages.now c.args.main.now (option_map (λ (t : Bor (List ℕ)). t.now) n))) (sym c.in-Some.is) c.world_named.ensures.cause
