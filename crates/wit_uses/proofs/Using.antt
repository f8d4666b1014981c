-- What is taken by use is of interfaces of which types are used.
use Rattle.std.proofs.Common.{◌≡◌, ℕ, Bool, true, false, List, [], ◌⊎◌, inl, inr, Option, Some, None, refl, sym, subst, ap, ◌∙◌}
use Rattle.std.proofs.lemmas.Bool.{cases_Bool, eqb-true}
use Rattle.std.specs.Prelude.{slice_get, nat_eq, if◌then◌else◌}
use Rattle.wit_joined.specs.Passed.wit_order-Order.{Has}
use Rattle.wit_joined.specs.Passed.wit_types-declared-kind-TypeDefKind.{TypeDefKind}
use Rattle.wit_joined.specs.Passed.wit_types-declared-interface-TypeDef.{TypeDef}
use Rattle.wit_joined.specs.Passed.wit_types-declared-interface-TypeOwner.{TypeOwner}
use Rattle.wit_joined.specs.Passed.wit_types-declared-interface-TypeOwner-TheVariants as belongs
use Rattle.wit_joined.specs.Passed.wit_reach-Deps.{alias_target, interface_of, is_of_interface, but_own, owned, at_target, def_dep, AreUsed}
use Rattle.wit_joined.specs.Passed.wit_reach-Made.{is_open, IsMadeOfWithin}
use Rattle.wit_joined.specs.Passed.wit_reach-Paths.{Reaches}
use Rattle.wit_joined.proofs.Passed.wit_reach-Ends.{closed_ends, reaches_more}
use Rattle.wit_uses.specs.Uses.{IsOwn, IsUse, TakesByUse, IsTaken, SeesByUse, TakenAreUsed}

-- an owner sees into interfaces that it is
open_interface : (by : TypeOwner) (q : ℕ) → is_open by (belongs.Interface q) ≡ true → by ≡ belongs.Interface q
open_interface (belongs.Interface j) q e = ap (λ (n : ℕ). belongs.Interface n) (sym (eqb-true q j e))
open_interface (belongs.World w) q e = absurd cc
open_interface belongs.None q e = absurd cc

-- what it sees into is of another interface, unless it is this
of_other : (by o : TypeOwner) (m : ℕ) → is_open by o ≡ true → (belongs.Interface m ≡ by) ⊎ (is_of_interface m o ≡ false)
of_other by belongs.None m e = inr refl
of_other by (belongs.World v) m e = inr refl
of_other by (belongs.Interface q) m e = elim (cases_Bool (nat_eq q m)) as (λ _. (belongs.Interface m ≡ by) ⊎ (nat_eq q m ≡ false)) [
  | inl same ↦ inl (ap (λ (n : ℕ). belongs.Interface n) (sym (eqb-true q m same)) ∙ sym (open_interface by q e))
  | inr differ ↦ inr differ
]

own_taken : (by : TypeOwner) (uses : ℕ → Type 0) (o : TypeOwner) → IsOwn by o → IsTaken by uses o
own_taken by uses belongs.None h = tt
own_taken by uses (belongs.Interface j) (inl none) = absurd cc
own_taken by uses (belongs.Interface j) (inr same) = inl same
own_taken by uses (belongs.World v) (inl none) = absurd cc
own_taken by uses (belongs.World v) (inr same) = same

module _ (types : List TypeDef) (by : TypeOwner) (listed : List ℕ) (start : ℕ → Type 0) (takes : TakesByUse types by (Has listed) start) where
  use_dep : (k i : ℕ) (d e : TypeDef) (u : IsUse (Has listed) k i d e) → slice_get types i ≡ Some e → is_of_interface u.interface d.owner ≡ false → def_dep types d ≡ Some u.interface
  use_dep k i d e u at other =
      ap (λ (x : TypeDefKind). owned (at_target types (alias_target x)) d.owner) u.kind_is ∙ ap (λ (x : Option TypeDef). owned x d.owner) at ∙ ap (λ (o : TypeOwner). but_own d.owner (interface_of o)) u.of
      ∙ ap (λ (b : Bool). if b then None else Some u.interface) other

  use_taken : (k i : ℕ) (d e : TypeDef) → slice_get types k ≡ Some d → is_open by d.owner ≡ true → slice_get types i ≡ Some e → IsUse (Has listed) k i d e → IsTaken by (AreUsed types listed) e.owner
  use_taken k i d e at_k open_k at_i u =
      subst (IsTaken by (AreUsed types listed)) (sym u.of) (elim (of_other by d.owner u.interface open_k) as (λ _. (belongs.Interface u.interface ≡ by) ⊎ AreUsed types listed u.interface) [
        | inl same ↦ inl same
        | inr other ↦ inr (k, u.is_listed, (d, at_k, use_dep k i d e u at_i other))
      ])

  -- a type that it sees is taken
  abbrev IsSo : ℕ → ℕ → Type 0
  IsSo s k = Reaches (IsMadeOfWithin by types) s k × ((e : TypeDef) → slice_get types k ≡ Some e → IsTaken by (AreUsed types listed) e.owner)

  step : (s : ℕ) → start s → (k j : ℕ) → IsSo s k → IsMadeOfWithin by types k j → IsSo s j
  step s starts k j (reached, so) (x, at_x, into, has) = (
    reaches_more (IsMadeOfWithin by types) s k j reached (x, at_x, into, has),
    λ e at_e. elim (takes.parts s k j x e starts reached at_x into has at_e) as (λ _. IsTaken by (AreUsed types listed) e.owner) [
      | inl own ↦ own_taken by (AreUsed types listed) e.owner own
      | inr u ↦ use_taken k j x e at_x into at_e u
    ],
  )

  pub sees : SeesByUse types by (AreUsed types listed) start
  sees s i d starts reach at = (closed_ends (IsMadeOfWithin by types) (IsSo s) (step s starts) s reach.0 i (([], refl), λ e at_e. own_taken by (AreUsed types listed) e.owner (takes.starts s e starts at_e)) reach.1).1 d at

pub taken_are_used : TakenAreUsed
taken_are_used types by listed starts takes = sees types by listed (Has starts) takes
