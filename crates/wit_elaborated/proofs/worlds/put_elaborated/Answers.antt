use Rattle.std.proofs.Common.{◌≡◌, ℕ, ◌<◌, List, [], inl, refl, sym, ap, subst, ◌∙◌}
use Rattle.std.proofs.lemmas.Result.{on_ok_weaker, IfErr-weaker}
use Rattle.wit_reach.specs.Passed.wit_order-Order.{Has}
use Rattle.wit_reach.specs.declared.reach.ElaborateFault.TheVariants.{OutOfMemory}
use Rattle.wit_elaborated.specs.Elaborated.{elaborated}
use Rattle.wit_elaborated.specs.Worlds.{IsElaboratedCause}
use Rattle.wit_elaborated.proofs.Listed.{keys_listed}
use Rattle.wit_elaborated.proofs.worlds.put_elaborated.Goals as goal

pub put_imports-requires-clause-there : goal.put_imports-requires-clause-there
put_imports-requires-clause-there c = λ i h.
    subst (λ (n : ℕ). i < n) c.requires.rows (c.in_ok-order.ensures.ok.0 i (subst (λ (l : List ℕ). Has l i) c.as_slice.ensures.value h))

pub put_imports-requires-clause-listed : goal.put_imports-requires-clause-listed
put_imports-requires-clause-listed c = λ i h.
    let found = c.in_ok-order.ensures.ok.1 in
    let listed = subst (λ (l : List ℕ). Has l i) (sym found.1.imports) (keys_listed c.args.world.now.imports.entries c.requires.keys i h) in
    subst (λ (l : List ℕ). Has l i) (sym c.as_slice.ensures.value) (found.2.all i (i, inl listed, ([], refl)))

pub returns-clause-ok : goal.returns-clause-ok
returns-clause-ok c =
    let found = c.in_ok-order.ensures.ok.1 in
    on_ok_weaker c.put_imports.result (λ put. record {
      lists = found.0;
      order = c.in_ok-order.order.items;
      listed = found.1;
      elaboration = found.2;
      imports = put.0 ∙ ap (λ (order : List ℕ). elaborated c.args.interfaces.now order c.args.world.now.imports.entries) c.as_slice.ensures.value;
      rest = put.1;
    }) c.put_imports.ensures.ok

pub returns-clause-cause : goal.returns-clause-cause
returns-clause-cause c =
    IfErr-weaker c.put_imports.result (λ e. e ≡ OutOfMemory) (IsElaboratedCause c.args.types.now c.args.uses.now c.args.world.now) (λ e is. rw is tt) c.put_imports.ensures.memory
