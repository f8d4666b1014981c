-- What types are made of over any number of steps is of interfaces that are shown, where each owner takes types of others by use alone.
use Rattle.std.proofs.Common.{◌≡◌, ℕ, ◌+◌, true, List, [], ◌⊎◌, inl, inr, Some, length, refl, sym, subst, ap, ◌∙◌, arith}
use Rattle.std.proofs.lemmas.Bool.{eq-eqb}
use Rattle.std.proofs.lemmas.Option.{same_Some}
use Rattle.std.specs.Prelude.{slice_get}
use Rattle.wit_order.specs.Order.{Has}
use Rattle.wit_types.specs.declared.interface.Interface.{Interface}
use Rattle.wit_types.specs.declared.interface.TypeDef.{TypeDef}
use Rattle.wit_types.specs.declared.interface.TypeOwner.{TypeOwner}
use Rattle.wit_types.specs.declared.interface.TypeOwner.TheVariants as belongs
use Rattle.wit_reach.specs.Deps.{interface_of, IsInterfaceDep}
use Rattle.wit_reach.specs.Holding.{AreListed, listed_types}
use Rattle.wit_reach.specs.Lists.{AreOwnersThere}
use Rattle.wit_reach.specs.Made.{is_open, IsMadeOfWithin}
use Rattle.wit_reach.specs.Needed.{BelongsTo}
use Rattle.wit_reach.specs.Paths.{Reaches}
use Rattle.wit_reach.specs.Types.{IsMadeOf}
use Rattle.wit_reach.proofs.Ends.{closed_ends, reaches_more}
use Rattle.wit_reach.proofs.Holding.{got}
use Rattle.wit_item_names.specs.Passed.wit_uses-Uses.{IsTaken, SeesByUse, IsOfInterface}

-- ---- owners

same_interface : (i j : ℕ) → belongs.Interface i ≡ belongs.Interface j → i ≡ j
same_interface i j e = cc

opens_own : (k : ℕ) (o : TypeOwner) → o ≡ belongs.Interface k → is_open (belongs.Interface k) o ≡ true
opens_own k o e = subst (λ (x : TypeOwner). is_open (belongs.Interface k) x ≡ true) (sym e) (eq-eqb k k refl)

opens_world : (w : ℕ) (o : TypeOwner) → o ≡ belongs.World w → is_open (belongs.World w) o ≡ true
opens_world w o e = subst (λ (x : TypeOwner). is_open (belongs.World w) x ≡ true) (sym e) (eq-eqb w w refl)

opens_none : (by o : TypeOwner) → o ≡ belongs.None → is_open by o ≡ true
opens_none by o e = subst (λ (x : TypeOwner). is_open by x ≡ true) (sym e) refl

interface_owner : (o : TypeOwner) (j : ℕ) → interface_of o ≡ Some j → o ≡ belongs.Interface j
interface_owner (belongs.Interface i) j h = ap (λ (k : ℕ). belongs.Interface k) (same_Some i j h)
interface_owner (belongs.World w) j h = absurd cc
interface_owner belongs.None j h = absurd cc

-- ---- what is seen

module _ (types : List TypeDef) where
  -- one of these is made of it, as far as the owner sees
  record IsSeen (by : TypeOwner) (start : ℕ → Type 0) (i : ℕ) : Type 0 where
    from : ℕ
    starts : start from
    reaches : Reaches (IsMadeOfWithin by types) from i

  seen_more : (by : TypeOwner) (start : ℕ → Type 0) (i j : ℕ) (d : TypeDef) → IsSeen by start i → slice_get types i ≡ Some d → is_open by d.owner ≡ true → IsMadeOf types i j → IsSeen by start j
  seen_more by start i j d seen at into (e, at_e, has) =
      let same : d ≡ e = same_Some d e (sym at ∙ at_e) in
      let into_e : is_open by e.owner ≡ true = subst (λ (x : TypeDef). is_open by x.owner ≡ true) same into in
      record { from = seen.from; starts = seen.starts; reaches = reaches_more (IsMadeOfWithin by types) seen.from i j seen.reaches (e, at_e, into_e, has) }

  module _ (interfaces : List Interface) (Shown : ℕ → Type 0) (taken : (k : ℕ) (d : Interface) → slice_get interfaces k ≡ Some d → SeesByUse types (belongs.Interface k) (IsInterfaceDep types d) (IsOfInterface d)) (listed : AreListed 0 types interfaces) (owners : AreOwnersThere (length interfaces) types)
      (closed : (k j : ℕ) (d : Interface) → Shown k → slice_get interfaces k ≡ Some d → IsInterfaceDep types d j → Shown j)
      (world : ℕ) (uses start : ℕ → Type 0) (world_taken : SeesByUse types (belongs.World world) uses start) (used_shown : (j : ℕ) → uses j → Shown j)
    where
      -- an interface that is shown sees it
      record IsSeenByOne (i : ℕ) : Type 0 where
        pub interface : ℕ
        pub there : Interface
        pub shown : Shown interface
        pub at : slice_get interfaces interface ≡ Some there
        pub seen : IsSeen (belongs.Interface interface) (IsOfInterface there) i

      abbrev IsSeenBySome : ℕ → Type 0
      IsSeenBySome i = IsSeen (belongs.World world) start i ⊎ IsSeenByOne i

      -- of an interface that is shown, it sees its own types
      enters : (i j k : ℕ) (d : TypeDef) → Shown k → slice_get types i ≡ Some d → d.owner ≡ belongs.Interface k → IsMadeOf types i j → IsSeenByOne j
      enters i j k d shown at its made =
          let of : interface_of d.owner ≡ Some k = ap interface_of its in
          let x = got interfaces k (owners i k d at of) in
          let behind : k ≡ 0 + k = omega arith in
          let has : Has (listed_types x.0) i = listed i k x.0 x.1 (d, at, of ∙ ap (λ (n : ℕ). Some n) behind) in
          let first : IsSeen (belongs.Interface k) (IsOfInterface x.0) i = record { from = i; starts = inl has; reaches = ([], refl) } in
          record { interface = k; there = x.0; shown = shown; at = x.1; seen = seen_more (belongs.Interface k) (IsOfInterface x.0) i j d first at (opens_own k d.owner its) made }

      step_of_one : (i j : ℕ) (d : TypeDef) (s : IsSeenByOne i) → slice_get types i ≡ Some d → (o : TypeOwner) → d.owner ≡ o → IsTaken (belongs.Interface s.interface) (IsInterfaceDep types s.there) o → IsMadeOf types i j → IsSeenByOne j
      step_of_one i j d s at belongs.None its t made =
          record { interface = s.interface; there = s.there; shown = s.shown; at = s.at; seen = seen_more (belongs.Interface s.interface) (IsOfInterface s.there) i j d s.seen at (opens_none (belongs.Interface s.interface) d.owner its) made }
      step_of_one i j d s at (belongs.World v) its t made = absurd (let e : belongs.World v ≡ belongs.Interface s.interface = t in cc)
      step_of_one i j d s at (belongs.Interface k) its (inl own) made =
          record { interface = s.interface; there = s.there; shown = s.shown; at = s.at; seen = seen_more (belongs.Interface s.interface) (IsOfInterface s.there) i j d s.seen at (opens_own s.interface d.owner (its ∙ own)) made }
      step_of_one i j d s at (belongs.Interface k) its (inr dep) made = enters i j k d (closed s.interface k s.there s.shown s.at dep) at its made

      step_of_world : (i j : ℕ) (d : TypeDef) → IsSeen (belongs.World world) start i → slice_get types i ≡ Some d → (o : TypeOwner) → d.owner ≡ o → IsTaken (belongs.World world) uses o → IsMadeOf types i j → IsSeenBySome j
      step_of_world i j d s at belongs.None its t made = inl (seen_more (belongs.World world) start i j d s at (opens_none (belongs.World world) d.owner its) made)
      step_of_world i j d s at (belongs.World v) its t made = inl (seen_more (belongs.World world) start i j d s at (opens_world world d.owner (its ∙ t)) made)
      step_of_world i j d s at (belongs.Interface k) its (inl own) made = absurd (let e : belongs.Interface k ≡ belongs.World world = own in cc)
      step_of_world i j d s at (belongs.Interface k) its (inr used) made = inr (enters i j k d (used_shown k used) at its made)

      step : (i j : ℕ) → IsSeenBySome i → IsMadeOf types i j → IsSeenBySome j
      step i j (inl s) (d, at, has) = step_of_world i j d s at d.owner refl (world_taken s.from i d s.starts s.reaches at) (d, at, has)
      step i j (inr s) (d, at, has) = inr (step_of_one i j d s at d.owner refl (taken s.interface s.there s.at s.seen.from i d s.seen.starts s.seen.reaches at) (d, at, has))

      shown_of_one : (i j : ℕ) (d : TypeDef) (s : IsSeenByOne i) → slice_get types i ≡ Some d → IsTaken (belongs.Interface s.interface) (IsInterfaceDep types s.there) (belongs.Interface j) → Shown j
      shown_of_one i j d s at (inl own) = subst Shown (sym (same_interface j s.interface own)) s.shown
      shown_of_one i j d s at (inr dep) = closed s.interface j s.there s.shown s.at dep

      shown_of_world : (j : ℕ) → IsTaken (belongs.World world) uses (belongs.Interface j) → Shown j
      shown_of_world j (inl own) = absurd cc
      shown_of_world j (inr used) = used_shown j used

      shown : (i j : ℕ) → IsSeenBySome i → BelongsTo types i j → Shown j
      shown i j (inl s) (d, at, of) = shown_of_world j (subst (IsTaken (belongs.World world) uses) (interface_owner d.owner j of) (world_taken s.from i d s.starts s.reaches at))
      shown i j (inr s) (d, at, of) =
          shown_of_one i j d s at (subst (IsTaken (belongs.Interface s.interface) (IsInterfaceDep types s.there)) (interface_owner d.owner j of) (taken s.interface s.there s.at s.seen.from i d s.seen.starts s.seen.reaches at))

      -- ---- from what the world is made of, and from what is of an interface that is shown

      pub world_shows : (s i j : ℕ) → start s → Reaches (IsMadeOf types) s i → BelongsTo types i j → Shown j
      world_shows s i j starts reach of = shown i j (closed_ends (IsMadeOf types) IsSeenBySome step s reach.0 i (inl (record { from = s; starts = starts; reaches = ([], refl) })) reach.1) of

      pub interface_shows : (k : ℕ) (d : Interface) (s i j : ℕ) → Shown k → slice_get interfaces k ≡ Some d → IsOfInterface d s → Reaches (IsMadeOf types) s i → BelongsTo types i j → Shown j
      interface_shows k d s i j is_shown at starts reach of =
          let first : IsSeenByOne s = record { interface = k; there = d; shown = is_shown; at = at; seen = record { from = s; starts = starts; reaches = ([], refl) } } in
          shown i j (closed_ends (IsMadeOf types) IsSeenBySome step s reach.0 i (inr first) reach.1) of
