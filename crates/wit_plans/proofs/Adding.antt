-- What one more adds.
use Rattle.std.proofs.Common.{◌≡◌, ◌∙◌, ℕ, Bool, true, false, Option, Some, None, List, [], ◌∷◌, ◌++◌, refl, sym, subst, Result, Ok, Err}
use Rattle.std.proofs.lemmas.List.{append-nil}
use Rattle.std.proofs.lemmas.Option.{same_Some}
use Rattle.std.specs.Prelude.{if◌then◌else◌, OnOk, IfOk}
use Rattle.std.specs.Result.{result_and}
use Rattle.wit_finding.specs.Passed.wit_types-declared-interface-Interface.{Interface}
use Rattle.wit_finding.specs.Passed.wit_types-declared-world-World.{World}
use Rattle.wit_finding.specs.Passed.wit_features-Features.{FeatureSet, stays}
use Rattle.wit_finding.specs.Passed.wit_moves-Interfaces.{IsMovedInterface}
use Rattle.wit_plans.specs.declared.moves.MovedWorld.{MovedWorld}
use Rattle.wit_plans.specs.Checks.{Standing}
use Rattle.wit_plans.specs.Moves.{IsMovedWorld, AreMovedInterfaces, interface_goes, interface_stays, AddsInterface, adds_no_interface, adds_interface, AreMovedWorlds, world_goes, world_stays, AddsWorld, adds_no_world, adds_world}

module _ (features : FeatureSet) (s : Standing) where
  pub one_interface : (owner : ℕ) (d : Interface) (ds adds more : List Interface) → AddsInterface features s owner d adds → AreMovedInterfaces features s owner ds more → AreMovedInterfaces features s owner (d ∷ ds) (adds ++ more)
  one_interface owner d ds _ more (adds_no_interface goes) h = interface_goes d ds more goes h
  one_interface owner d ds _ more (adds_interface e stays moved) h = interface_stays d e ds more stays moved h

  pub one_world : (w : World) (ws : List World) (adds more : List MovedWorld) → AddsWorld features s w adds → AreMovedWorlds features s ws more → AreMovedWorlds features s (w ∷ ws) (adds ++ more)
  one_world w ws _ more (adds_no_world goes) h = world_goes w ws more goes h
  one_world w ws _ more (adds_world m stays moved) h = world_stays w m ws more stays moved h

  pub interface_if : (owner : ℕ) (d e : Interface) (b : Bool) (old new : List Interface) → b ≡ stays features d.stability → (b ≡ true → IsMovedInterface features s.types owner d e)
      → new ≡ old ++ (if b then e ∷ [] else []) → (more : List Interface) × AddsInterface features s owner d more × (new ≡ old ++ more)
  interface_if owner d e true old new is moved added = (e ∷ [], adds_interface e (sym is) (moved refl), added)
  interface_if owner d e false old new is moved added = ([], adds_no_interface (sym is), added)

  pub world_in : (w x : World) (b : Bool) (r : Option World) (old new : List MovedWorld) → b ≡ stays features w.stability → r ≡ (if b then Some w else None) → r ≡ Some x
      → (m : MovedWorld) × IsMovedWorld features s x m × (new ≡ old ++ (m ∷ [])) → (more : List MovedWorld) × AddsWorld features s w more × (new ≡ old ++ more)
  world_in w x true r old new is kept some (m, moved, added) = (m ∷ [], adds_world m (sym is) (subst (λ (y : World). IsMovedWorld features s y m) (same_Some x w (sym some ∙ kept)) moved), added)
  world_in w x false r old new is kept some added = absurd (cc)

  pub world_out : (w : World) (b : Bool) (r : Option World) (old : List MovedWorld) → b ≡ stays features w.stability → r ≡ (if b then Some w else None) → r ≡ None
      → (more : List MovedWorld) × AddsWorld features s w more × (old ≡ old ++ more)
  world_out w true r old is kept none = absurd (cc)
  world_out w false r old is kept none = ([], adds_no_world (sym is), sym (append-nil old))

-- what follows of a value that goes with the outcome of a call
pub and_ok : {T U E : Type 0} (r : Result T E) (x : U) {P : Type 0} (Q : U → Type 0) → (P → Q x) → OnOk r P → IfOk (result_and r (Ok x)) Q
and_ok (Ok y) x Q f p = f p
and_ok (Err e) x Q f p = p
