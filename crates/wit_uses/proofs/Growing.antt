-- With more types behind them, owners take types by use still.
use Rattle.std.proofs.Common.{◌≡◌, ℕ, ◌+◌, ◌<◌, List, [], ◌++◌, inl, inr, Some, String, length, refl, sym, ◌∙◌, arith}
use Rattle.std.specs.Prelude.{slice_get}
use Rattle.std.specs.declared.alloc.Global.{Global}
use Rattle.wit_joined.specs.Passed.wit_order-Order.{Has}
use Rattle.wit_joined.specs.Passed.wit_types-declared-function-Function.{Function}
use Rattle.wit_joined.specs.Passed.wit_types-declared-interface-Interface.{Interface}
use Rattle.wit_joined.specs.Passed.wit_types-declared-interface-TypeDef.{TypeDef}
use Rattle.wit_joined.specs.Passed.wit_types-declared-interface-TypeOwner.{TypeOwner}
use Rattle.wit_joined.specs.Passed.wit_types-declared-interface-TypeOwner-TheVariants as belongs
use Rattle.wit_joined.specs.Passed.wit_reach-Holding.{listed_types}
use Rattle.wit_joined.specs.Passed.wit_reach-Ids.{function_ids}
use Rattle.wit_joined.specs.Passed.wit_reach-Made.{IsMadeOfWithin}
use Rattle.wit_joined.specs.Passed.wit_reach-Paths.{Reaches}
use Rattle.wit_joined.specs.Passed.wit_reach-Types.{AreTypesBackward}
use Rattle.wit_joined.proofs.Passed.wit_reach-Ends.{closed_ends, reaches_more}
use Rattle.wit_joined.proofs.Passed.wit_reach-Growing.{get_same}
use Rattle.wit_joined.proofs.Passed.wit_reach-Holding.{has_flat, mapped_has}
use Rattle.wit_placed.specs.There.{IsInterfaceThere}
use Rattle.wit_placed.proofs.Members.{has_get}
use Rattle.wit_uses.specs.Uses.{TakesByUse, IsOfInterface}
use Rattle.wit_uses.specs.Moved.{InterfacesStillTakeByUse}

module _ (types more : List TypeDef) (back : AreTypesBackward types) (by : TypeOwner) (listed start : ℕ → Type 0) (there : (s : ℕ) → start s → s < length types) (takes : TakesByUse types by listed start) where
  at_was : (i : ℕ) (d : TypeDef) → i < length types → slice_get (types ++ more) i ≡ Some d → slice_get types i ≡ Some d
  at_was i d low at = sym (get_same types more i low) ∙ at

  pub takes_more : TakesByUse (types ++ more) by listed start
  takes_more = record {
    starts = λ s d h at. takes.starts s d h (at_was s d (there s h) at);
    parts = λ s k i d e h reach at into has at_i.
        (let so = closed_ends (IsMadeOfWithin by (types ++ more)) (λ (j : ℕ). (j < length types) × Reaches (IsMadeOfWithin by types) s j) (step s) s reach.0 k (there s h, ([], refl)) reach.1 in
        let here = at_was k d so.0 at in
        let down : i < k = back k i (d, here, has) in
        let low : k < length types = so.0 in
        takes.parts s k i d e h so.1 here into has (at_was i e (omega (arith, down, low)) at_i));
    lists = λ s k d h reach at its.
        (let so = closed_ends (IsMadeOfWithin by (types ++ more)) (λ (j : ℕ). (j < length types) × Reaches (IsMadeOfWithin by types) s j) (step s) s reach.0 k (there s h, ([], refl)) reach.1 in takes.lists s k d h so.1 (at_was k d so.0 at) its);
  }
    where
      step : (s k j : ℕ) → (k < length types) × Reaches (IsMadeOfWithin by types) s k → IsMadeOfWithin by (types ++ more) k j → (j < length types) × Reaches (IsMadeOfWithin by types) s j
      step s k j (low, reached) (x, at_x, into, has) =
          let here = at_was k x low at_x in
          let down : j < k = back k j (x, here, has) in
          (omega (arith, down, low), reaches_more (IsMadeOfWithin by types) s k j reached (x, here, into, has))

-- what interfaces are made of is there
pub of_interface_there : (types : List TypeDef) (d : Interface) → IsInterfaceThere types d → (s : ℕ) → IsOfInterface d s → s < length types
of_interface_there types d there s (inl listed) = there.names s listed
of_interface_there types d there s (inr function) =
    let g = has_flat (λ (z : String Global × Function). function_ids z.1) d.functions.entries s function in
    there.functions g.0.1 (mapped_has (λ (z : String Global × Function). z.1) d.functions.entries g.0 g.1) s g.2

pub still_take : InterfacesStillTakeByUse
still_take others types more interfaces back there take k d at =
    takes_more types more back (belongs.Interface (others + k)) (Has (listed_types d)) (IsOfInterface d) (of_interface_there types d (there d (has_get interfaces k d at))) (take k d at)
