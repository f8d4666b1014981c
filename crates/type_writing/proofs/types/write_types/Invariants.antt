use Rattle.std.proofs.Common.{◌≡◌, ◌⊎◌, ◌++◌, ℕ, take}
use Rattle.std.specs.List.{AllByRecursion as Each}
use Rattle.wit_types.specs.Passed.wit_order-Order.{Has}
use Rattle.type_writing.specs.Placing.{AreLabelsApart}
use Rattle.type_writing.specs.Writing.{Begins, HasItsName, names_of_types, IsRemembered}
use Rattle.type_writing.proofs.types.write_types.Given as goal

abbrev pub invariant-loop-id : goal.invariant-loop-id
invariant-loop-id g l =
    let S = g.S.ValtypeEncoder in
    record {
      setting : S.setting l.sink ≡ S.setting l.initial.sink;
      outside : Begins (S.outside l.initial.sink) (S.outside l.sink);
      begins : Begins (S.space l.initial.sink) (S.space l.sink);
      good : S.good l.sink l.types;
      placed : AreLabelsApart l.types → S.placed l.initial.sink → S.placed l.sink;
      remembered : (k : ℕ) → IsRemembered (S.table l.initial.sink) k ⊎ Has (take l.id-index l.ids) k → IsRemembered (S.table l.sink) k;
      names : S.names l.sink ≡ S.names l.initial.sink ++ names_of_types (S.setting l.initial.sink) l.types (take l.id-index l.ids);
      given : (k : ℕ) → S.given l.initial.sink k → S.given l.sink k;
      named : Each (HasItsName (S.setting l.initial.sink) l.types (S.given l.sink)) (take l.id-index l.ids);
    }
