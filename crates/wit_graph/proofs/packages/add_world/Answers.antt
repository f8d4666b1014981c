use Rattle.std.proofs.Common.{◌≡◌, ℕ, ◌⊎◌, inl, inr, List, Some, subst}
use Rattle.std.proofs.lemmas.Result.{on_ok_weaker}
use Rattle.std.specs.Prelude.{slice_get}
use Rattle.wit_order.specs.Order.{Has}
use Rattle.wit_types.specs.declared.world.World.{World}
use Rattle.wit_graph.specs.Packages.{IsNamedByWorld}
use Rattle.wit_graph.proofs.Depending.{world_there}
use Rattle.wit_graph.proofs.packages.add_world.Goals as goal

pub named_interfaces-requires-clause-there : goal.named_interfaces-requires-clause-there
named_interfaces-requires-clause-there c =
    (world_there c.args.tables.now c.requires.whole c.law_elaborated_worlds_are_there.ensures c.args.id c.get-world.result.now
    (subst (λ (ws : List World). slice_get ws c.args.id ≡ Some c.get-world.result.now) c.elaborated.ensures c.get-world.ensures) c.requires.there).0

pub returns-clause-only : goal.returns-clause-only
returns-clause-only c =
    on_ok_weaker c.add_all.result
    (λ only j h. elim (only j h) as (λ _. Has c.args.set.now.keys j ⊎ IsNamedByWorld c.args.tables.now c.args.id j) [
      | inl was ↦ inl was
      | inr new ↦ inr (
        c.get-world.result.now,
        subst (λ (ws : List World). slice_get ws c.args.id ≡ Some c.get-world.result.now) c.elaborated.ensures c.get-world.ensures,
        (c.in_ok-named.ensures j).0 (subst (λ (l : List ℕ). Has l j) c.as_slice.ensures.value new),
      )
    ])
    c.add_all.ensures.only
