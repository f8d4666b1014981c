-- The ids of what is asked of other packages.
use Rattle.std.proofs.Common.{List, take, subst}
use Rattle.wit_interfaces.specs.Passed.wit_arena-Tree.{Place}
use Rattle.wit_readiness.specs.Passed.wit_foreign-Needs.{NeedTree}
use Rattle.wit_readiness.specs.Passed.wit_foreign-Items.{Items, interfaces_in, worlds_in, IsNumbered, AreItemsOf}
use Rattle.wit_worlds.specs.Paths.{AreSorts}

module _ (needs : List NeedTree) (items : Items) (are : AreItemsOf needs items) where
  -- each item has an id of its sort
  pub items_are_sorts : AreSorts items
  items_are_sorts = record {
    interfaces = λ w x i (p, at) e. (interfaces_in (take p items), subst (λ (o : Place). IsNumbered (interfaces_in (take p items)) (worlds_in (take p items)) o i) e (are.numbered p w i at));
    worlds = λ w x i (p, at) e. (worlds_in (take p items), subst (λ (o : Place). IsNumbered (interfaces_in (take p items)) (worlds_in (take p items)) o i) e (are.numbered p w i at));
  }
