-- What an interface takes of others is of earlier ones.
use Rattle.std.proofs.Common.{◌≡◌, ◌≤◌, ◌<◌, ℕ, List, Some, true, false, refl, arith, inl, inr}
use Rattle.std.specs.Prelude.{slice_get, nat_eq, String}
use Rattle.std.specs.declared.alloc.Global.{Global}
use Rattle.std.proofs.lemmas.Bool.{eq-eqb}
use Rattle.wit_types.specs.declared.function.Function.{Function}
use Rattle.wit_types.specs.declared.interface.TypeDef.{TypeDef}
use Rattle.wit_types.specs.declared.interface.TypeOwner.{TypeOwner}
use Rattle.wit_types.specs.declared.interface.TypeOwner.TheVariants as belongs
use Rattle.wit_reach.specs.Holding.{IsUpTo, IsMadeUpTo, TypesUseEarlier, AreNamedOwned}
use Rattle.wit_reach.specs.Made.{IsMadeOfWithin}
use Rattle.wit_reach.specs.Types.{IsMadeOf}
use Rattle.wit_reach.proofs.Seen.{path_over}
use Rattle.type_sinks.specs.Inside.{is_of}
use Rattle.component_imports.specs.Order.{AreLinkedUpTo, EarlierTypesAreUsed}
use Rattle.component_imports.specs.Ready.{IsStartOf}

module _ (types : List TypeDef) (linked : List (List Function)) (earlier : TypesUseEarlier types) (named_owned : AreNamedOwned types) (over : AreLinkedUpTo types linked) where
  start_up_to : (own s : ℕ) → IsStartOf types linked own s → IsMadeUpTo types own s
  start_up_to own s start = elim start as (λ _. IsMadeUpTo types own s) [ inl of ↦ earlier s own of | inr (fs, got, has) ↦ over own fs s got has ]

  -- an owner that isn't the interface's own is an earlier interface
  owner_earlier : (own i : ℕ) (d : TypeDef) (x : String Global) → slice_get types i ≡ Some d → d.name ≡ Some x → (o : TypeOwner) → d.owner ≡ o → IsUpTo own o → is_of own o ≡ false → (j : ℕ) × (o ≡ belongs.Interface j) × (j < own)
  owner_earlier own i d x at named belongs.None is up away = absurd (named_owned i d x at named is)
  owner_earlier own i d x at named (belongs.World w) is up away = absurd up
  owner_earlier own i d x at named (belongs.Interface j) is up away =
      let low : j ≤ own = up in
      let apart : (j ≡ own → ⊥) = λ same. (let here : nat_eq j own ≡ true = eq-eqb j own same in let not : nat_eq j own ≡ false = away in cc) in
      (j, refl, omega (arith, low, apart))

pub earlier_used : EarlierTypesAreUsed
earlier_used types linked earlier named_owned over own i d x (s, start, (via, path)) at named away =
    let reach = path_over (IsMadeOfWithin (belongs.Interface own) types) (IsMadeOf types) (λ i j (d, there, seen, part). (d, there, part)) s via i path in
    owner_earlier types linked earlier named_owned over own i d x at named d.owner refl (start_up_to types linked earlier named_owned over own s start i d (via, reach) at) away
