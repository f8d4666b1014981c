use Rattle.std.proofs.Common.{◌≡◌, List, ℕ, ◌++◌, sym, ap, subst, ◌∙◌}
use Rattle.std.proofs.lemmas.List.{append-nil}
use Rattle.std.proofs.lemmas.Map.Keys.{below_from_sorted}
use Rattle.wit_reach.specs.Paths.{AreRising}
use Rattle.wit_graph.proofs.Rising.{keys_rise}
use Rattle.wit_graph.proofs.packages.packages_of.Goals as goal

pub returns-clause-rising : goal.returns-clause-rising
returns-clause-rising c =
    let keys = c.args.set.now.keys in
    let whole : c.loop-index.found.items ≡ keys = sym (append-nil c.loop-index.found.items) ∙ (ap (λ (l : List ℕ). c.loop-index.found.items ++ l) (sym c.in-None.ensures.steps.0) ∙ c.loop-index.invariant) in
    subst AreRising (sym whole) (keys_rise keys (λ i j a b. below_from_sorted keys i j 0 c.len.ensures.ordered a b))
