use Rattle.std.proofs.Common.{◌≡◌, ℕ, List, [], ◌∷◌, ◌++◌, ap, ◌∙◌}
use Rattle.std.proofs.lemmas.Result.{IfOk-weaker}
use Rattle.std.specs.Prelude.{Vec}
use Rattle.std.specs.declared.alloc.Global.{Global}
use Rattle.wit_types.specs.Passed.wit_order-Order.{Has}
use Rattle.wit_reach.specs.Paths.{AreEnds}
use Rattle.wit_reach.specs.Reach.{Uses}
use Rattle.wit_reach.proofs.Ends.{from_one}
use Rattle.wit_reach.proofs.reach.closure.Goals as goal

pub returns : goal.returns
returns c =
    let one = c.as_slice.ensures.value ∙ c.in_ok-push.ensures.items ∙ ap (λ (l : List ℕ). l ++ c.args.interface ∷ []) c.new-starts.ensures.items in
    IfOk-weaker c.reached.result (λ (order : Vec ℕ Global). AreEnds (Uses c.args.uses.now) (Has c.as_slice.result.now) order.items) (λ (order : Vec ℕ Global). AreEnds (Uses c.args.uses.now) (λ (s : ℕ). s ≡ c.args.interface) order.items)
    (λ order ends. from_one c.args.uses.now c.args.interface c.as_slice.result.now order.items one ends) c.reached.ensures
