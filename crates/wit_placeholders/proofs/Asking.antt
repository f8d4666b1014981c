-- What is asked for, as it is gone through: the items have their interfaces and worlds up to some place, in front of which stands whatever
-- was asked for.
use Rattle.std.proofs.Common.{◌≡◌, ℕ, ◌+◌, ◌<◌, ◌≤◌, List, [], ◌∷◌, ◌++◌, inl, inr, length, Some, take, refl, sym, subst, ap, ◌∙◌, arith}
use Rattle.std.proofs.lemmas.Option.{same_Some, slice_get_within}
use Rattle.std.proofs.lemmas.List.{length-map}
use Rattle.std.proofs.lemmas.Bool.{cases_lt}
use Rattle.std.specs.Prelude.{slice_get}
use Rattle.wit_types.specs.declared.interface.Interface.{Interface}
use Rattle.wit_types.specs.declared.world.World.{World}
use Rattle.wit_types.specs.declared.«package».AstItem.{AstItem}
use Rattle.wit_types.specs.declared.«package».AstItem.TheVariants as ids
use Rattle.wit_foreign.specs.Passed.wit_arena-Tree.{Owner}
use Rattle.wit_foreign.specs.Passed.wit_arena-Meaning.{Has}
use Rattle.wit_foreign.proofs.Passed.wit_arena-Lists.{get_more, has_none}
use Rattle.wit_foreign.specs.declared.needs.Need.{Need}
use Rattle.wit_foreign.specs.View as seen
use Rattle.wit_foreign.specs.Needs.{NeedTree}
use Rattle.wit_foreign.specs.Items.{Items, need_owner, interfaces_in, worlds_in, interface_count, world_count, AreItemsOf}
use Rattle.wit_placeholders.specs.Placeholders.{IsFirstAsk, IsUnknownInterface, IsUnknownWorld, ArePlaceholders}
use Rattle.wit_foreign.proofs.Passed.wit_rules-Places.{taken}
use Rattle.wit_foreign.proofs.Gathering.{length_more, take_whole, interfaces_more, worlds_more}
use Rattle.wit_foreign.proofs.Standing.{got_at}
use Rattle.wit_foreign.proofs.Numbers.{interfaces_between, worlds_between, interface_or_world, interface_number, world_number, interface_alone, world_alone}

-- an interface, and a world, of whoever first asks for it by that need
abbrev pub IsInterfaceFor : NeedTree → Interface → Type 0
IsInterfaceFor m d = (ns : List NeedTree) (w : Owner) → IsFirstAsk ns w m → IsUnknownInterface ns w d

abbrev pub IsWorldFor : NeedTree → World → Type 0
IsWorldFor m d = (ns : List NeedTree) (w : Owner) → IsFirstAsk ns w m → IsUnknownWorld ns w d

module _ (needs : List NeedTree) (items : Items) where
  -- whatever the first needs ask for stands in front of that place
  abbrev pub StandBefore : ℕ → ℕ → Type 0
  StandBefore n r = (p : ℕ) (m : NeedTree) → p < n → slice_get needs p ≡ Some m → (k : ℕ) × (i : AstItem) × (k < r) × (slice_get items k ≡ Some (need_owner m, i))

  abbrev pub AreInterfaces : List Interface → Type 0
  AreInterfaces fs = (w : Owner) (k : ℕ) (d : Interface) → Has items (w, ids.Interface k) → slice_get fs k ≡ Some d → IsUnknownInterface needs w d

  abbrev pub AreWorlds : List World → Type 0
  AreWorlds ws = (w : Owner) (k : ℕ) (d : World) → Has items (w, ids.World k) → slice_get ws k ≡ Some d → IsUnknownWorld needs w d

  pub record SoFar (n : ℕ) (fs : List Interface) (ws : List World) : Type 0 where
    pub reached : ℕ
    pub inside : reached ≤ length items
    pub so_many_interfaces : length fs ≡ interfaces_in (take reached items)
    pub so_many_worlds : length ws ≡ worlds_in (take reached items)
    pub before : StandBefore n reached
    pub interfaces : AreInterfaces fs
    pub worlds : AreWorlds ws

  pub none_so_far : SoFar 0 [] []
  none_so_far = record {
    reached = 0;
    inside = omega arith;
    so_many_interfaces = refl;
    so_many_worlds = refl;
    before = λ p m less at. absurd (omega (arith, less));
    interfaces = λ w k d has at. absurd (has_none d (k, at));
    worlds = λ w k d has at. absurd (has_none d (k, at));
  }

  module _ (are : AreItemsOf needs items) (n : ℕ) (m : NeedTree) (at : slice_get needs n ≡ Some m) (fs : List Interface) (ws : List World) (so_far : SoFar n fs ws) (place : ℕ) (i : AstItem) (there : slice_get items place ≡ Some (need_owner m, i)) where
    before_next : (r : ℕ) → so_far.reached ≤ r → place < r → StandBefore (n + 1) r
    before_next r le less p o within at_p =
        elim (cases_lt p n) as (λ _. (k : ℕ) × (j : AstItem) × (k < r) × (slice_get items k ≡ Some (need_owner o, j))) [
          | inl earlier ↦ (let a = so_far.before p o earlier at_p in (a.0, a.1, (let l : a.0 < so_far.reached = a.2 in omega (arith, l, le)), a.3))
          | inr past ↦
              let same : p ≡ n = omega (arith, past, within) in
              let is : m ≡ o = same_Some m o (sym at ∙ ap (slice_get needs) (sym same) ∙ at_p) in
              (place, i, less, subst (λ (z : NeedTree). slice_get items place ≡ Some (need_owner z, i)) is there)
        ]

    -- its number where it stands in front, and where it doesn't
    below_interface : place < so_far.reached → i ≡ ids.Interface (length fs) → ⊥
    below_interface less is =
        let here : slice_get items place ≡ Some (need_owner m, ids.Interface (length fs)) = subst (λ (j : AstItem). slice_get items place ≡ Some (need_owner m, j)) is there in
        let number = interface_number needs items are place (need_owner m) (length fs) here in
        let more = interfaces_between items place so_far.reached (need_owner m, ids.Interface (length fs)) less here in
        let so_many = so_far.so_many_interfaces in
        omega (arith, number, more, so_many)

    below_world : place < so_far.reached → i ≡ ids.World (length ws) → ⊥
    below_world less is =
        let here : slice_get items place ≡ Some (need_owner m, ids.World (length ws)) = subst (λ (j : AstItem). slice_get items place ≡ Some (need_owner m, j)) is there in
        let number = world_number needs items are place (need_owner m) (length ws) here in
        let more = worlds_between items place so_far.reached (need_owner m, ids.World (length ws)) less here in
        let so_many = so_far.so_many_worlds in
        omega (arith, number, more, so_many)

    known : place < so_far.reached → SoFar (n + 1) fs ws
    known less = record {
      reached = so_far.reached;
      inside = so_far.inside;
      so_many_interfaces = so_far.so_many_interfaces;
      so_many_worlds = so_far.so_many_worlds;
      before = before_next so_far.reached (omega arith) less;
      interfaces = so_far.interfaces;
      worlds = so_far.worlds;
    }

    -- what is asked for first after the others stands right behind them
    not_past : so_far.reached < place → ⊥
    not_past less =
        let within : place < length items = slice_get_within items place (need_owner m, i) there in
        let e = got_at items so_far.reached (omega (arith, less, within)) in
        let o = are.ordered so_far.reached place e.0.0 (need_owner m) e.0.1 i n m less e.1 there at refl in
        let a = so_far.before o.0 o.1 o.2 o.3 in
        let one : a.0 ≡ so_far.reached = are.once a.0 so_far.reached e.0.0 a.1 e.0.1 (subst (λ (w : Owner). slice_get items a.0 ≡ Some (w, a.1)) o.4 a.3) e.1 in
        let l : a.0 < so_far.reached = a.2 in
        omega (arith, one, l)

    module _ (new : so_far.reached ≤ place) where
      is_next : place ≡ so_far.reached
      is_next = elim (cases_lt so_far.reached place) as (λ _. place ≡ so_far.reached) [
        | inl past ↦ absurd (not_past past)
        | inr upto ↦ omega (arith, new, upto)
      ]

      first : IsFirstAsk needs (need_owner m) m
      first = record {
        place = n;
        there = at;
        is = refl;
        first = λ p o less at_p same.
            (let a = so_far.before p o less at_p in
            let one : a.0 ≡ place = are.once a.0 place (need_owner m) a.1 i (subst (λ (w : Owner). slice_get items a.0 ≡ Some (w, a.1)) same a.3) there in
            let l : a.0 < so_far.reached = a.2 in
            omega (arith, one, l, new));
      }

      next_taken : take (place + 1) items ≡ take so_far.reached items ++ (need_owner m, i) ∷ []
      next_taken = taken items place (need_owner m, i) there ∙ ap (λ (k : ℕ). take k items ++ (need_owner m, i) ∷ []) is_next

      interfaces_taken : interfaces_in (take (place + 1) items) ≡ length fs + interface_count i
      interfaces_taken =
          let more = ap interfaces_in next_taken ∙ interfaces_more (take so_far.reached items) (need_owner m, i) in
          more ∙ ap (λ (k : ℕ). k + interface_count i) (sym so_far.so_many_interfaces)

      worlds_taken : worlds_in (take (place + 1) items) ≡ length ws + world_count i
      worlds_taken =
          let more = ap worlds_in next_taken ∙ worlds_more (take so_far.reached items) (need_owner m, i) in
          more ∙ ap (λ (k : ℕ). k + world_count i) (sym so_far.so_many_worlds)

      before_new : StandBefore (n + 1) (place + 1)
      before_new = before_next (place + 1) (omega (arith, new)) (omega arith)

      inside_new : place + 1 ≤ length items
      inside_new = (let l : place < length items = slice_get_within items place (need_owner m, i) there in omega (arith, l))

      module _ (is : i ≡ ids.Interface (length fs)) (d : Interface) (unknown : IsInterfaceFor m d) where
        own_interface : Has items (need_owner m, ids.Interface (length fs))
        own_interface = (place, subst (λ (j : AstItem). slice_get items place ≡ Some (need_owner m, j)) is there)

        interface_last : (w : Owner) (k : ℕ) (x : Interface) → Has items (w, ids.Interface k) → k ≡ length fs → x ≡ d → IsUnknownInterface needs w x
        interface_last w k x has last x_is =
            let same : need_owner m ≡ w = interface_alone needs items are (need_owner m) w (length fs) own_interface (subst (λ (j : ℕ). Has items (w, ids.Interface j)) last has) in
            subst (λ (v : Owner). IsUnknownInterface needs v x) same (subst (λ (y : Interface). IsUnknownInterface needs (need_owner m) y) (sym x_is) (unknown needs (need_owner m) first))

        new_interface : SoFar (n + 1) (fs ++ d ∷ []) ws
        new_interface = record {
          reached = place + 1;
          inside = inside_new;
          so_many_interfaces = length_more fs d ∙ ap (λ (j : AstItem). length fs + interface_count j) (sym is) ∙ sym interfaces_taken;
          so_many_worlds = (let none : world_count i ≡ 0 = ap world_count is in let e = worlds_taken in omega (arith, none, e));
          before = before_new;
          interfaces = λ w k x has at_k. elim (get_more fs d x k at_k) as (λ _. IsUnknownInterface needs w x) [
            | inl was ↦ so_far.interfaces w k x has was
            | inr last ↦ interface_last w k x has last.0 last.1
          ];
          worlds = so_far.worlds;
        }

      module _ (is : i ≡ ids.World (length ws)) (d : World) (unknown : IsWorldFor m d) where
        own_world : Has items (need_owner m, ids.World (length ws))
        own_world = (place, subst (λ (j : AstItem). slice_get items place ≡ Some (need_owner m, j)) is there)

        world_last : (w : Owner) (k : ℕ) (x : World) → Has items (w, ids.World k) → k ≡ length ws → x ≡ d → IsUnknownWorld needs w x
        world_last w k x has last x_is =
            let same : need_owner m ≡ w = world_alone needs items are (need_owner m) w (length ws) own_world (subst (λ (j : ℕ). Has items (w, ids.World j)) last has) in
            subst (λ (v : Owner). IsUnknownWorld needs v x) same (subst (λ (y : World). IsUnknownWorld needs (need_owner m) y) (sym x_is) (unknown needs (need_owner m) first))

        new_world : SoFar (n + 1) fs (ws ++ d ∷ [])
        new_world = record {
          reached = place + 1;
          inside = inside_new;
          so_many_interfaces = (let none : interface_count i ≡ 0 = ap interface_count is in let e = interfaces_taken in omega (arith, none, e));
          so_many_worlds = length_more ws d ∙ ap (λ (j : AstItem). length ws + world_count j) (sym is) ∙ sym worlds_taken;
          before = before_new;
          interfaces = so_far.interfaces;
          worlds = λ w k x has at_k. elim (get_more ws d x k at_k) as (λ _. IsUnknownWorld needs w x) [
            | inl was ↦ so_far.worlds w k x has was
            | inr last ↦ world_last w k x has last.0 last.1
          ];
        }

      -- its number
      next_interface : (k : ℕ) → i ≡ ids.Interface k → i ≡ ids.Interface (length fs)
      next_interface k is =
          let number = interface_number needs items are place (need_owner m) k (subst (λ (j : AstItem). slice_get items place ≡ Some (need_owner m, j)) is there) in
          is ∙ ap (λ (j : ℕ). ids.Interface j) (number ∙ ap (λ (j : ℕ). interfaces_in (take j items)) is_next ∙ sym so_far.so_many_interfaces)

      next_world : (k : ℕ) → i ≡ ids.World k → i ≡ ids.World (length ws)
      next_world k is =
          let number = world_number needs items are place (need_owner m) k (subst (λ (j : AstItem). slice_get items place ≡ Some (need_owner m, j)) is there) in
          is ∙ ap (λ (j : ℕ). ids.World j) (number ∙ ap (λ (j : ℕ). worlds_in (take j items)) is_next ∙ sym so_far.so_many_worlds)

  -- a need more
  module _ (are : AreItemsOf needs items) (n : ℕ) (m : NeedTree) (at : slice_get needs n ≡ Some m) (fs : List Interface) (ws : List World) (so_far : SoFar n fs ws) (i : AstItem) (has : Has items (need_owner m, i)) (gs : List Interface) (vs : List World)
      (adds_interface : i ≡ ids.Interface (length fs) → (d : Interface) × IsInterfaceFor m d × (gs ≡ fs ++ d ∷ []))
      (adds_world : i ≡ ids.World (length ws) → (d : World) × IsWorldFor m d × (vs ≡ ws ++ d ∷ []))
      (keeps_interfaces : (i ≡ ids.Interface (length fs) → ⊥) → gs ≡ fs)
      (keeps_worlds : (i ≡ ids.World (length ws) → ⊥) → vs ≡ ws) where
    with_both : (hs : List Interface) (us : List World) → gs ≡ hs → vs ≡ us → SoFar (n + 1) hs us → SoFar (n + 1) gs vs
    with_both hs us g v s = subst (λ (z : List Interface). SoFar (n + 1) z vs) (sym g) (subst (λ (z : List World). SoFar (n + 1) hs z) (sym v) s)

    step_interface : (k : ℕ) → i ≡ ids.Interface k → so_far.reached ≤ has.0 → SoFar (n + 1) gs vs
    step_interface k is new =
        let next = next_interface are n m at fs ws so_far has.0 i has.1 new k is in
        let a = adds_interface next in
        with_both (fs ++ a.0 ∷ []) ws a.2 (keeps_worlds (λ w. interface_or_world k (length ws) (sym is ∙ w))) (new_interface are n m at fs ws so_far has.0 i has.1 new next a.0 a.1)

    step_world : (k : ℕ) → i ≡ ids.World k → so_far.reached ≤ has.0 → SoFar (n + 1) gs vs
    step_world k is new =
        let next = next_world are n m at fs ws so_far has.0 i has.1 new k is in
        let a = adds_world next in
        with_both fs (ws ++ a.0 ∷ []) (keeps_interfaces (λ f. interface_or_world (length fs) k (sym f ∙ is))) a.2 (new_world are n m at fs ws so_far has.0 i has.1 new next a.0 a.1)

    step_new : (j : AstItem) → i ≡ j → so_far.reached ≤ has.0 → SoFar (n + 1) gs vs
    step_new (ids.Interface k) is new = step_interface k is new
    step_new (ids.World k) is new = step_world k is new

    pub step : SoFar (n + 1) gs vs
    step = elim (cases_lt has.0 so_far.reached) as (λ _. SoFar (n + 1) gs vs) [
      | inl less ↦ with_both fs ws (keeps_interfaces (below_interface are n m at fs ws so_far has.0 i has.1 less)) (keeps_worlds (below_world are n m at fs ws so_far has.0 i has.1 less)) (known are n m at fs ws so_far has.0 i has.1 less)
      | inr new ↦ step_new i refl new
    ]

  -- after the last need
  module _ (are : AreItemsOf needs items) (n : ℕ) (past : length needs ≤ n) (fs : List Interface) (ws : List World) (so_far : SoFar n fs ws) where
    none_left : so_far.reached < length items → ⊥
    none_left less =
        let e = got_at items so_far.reached less in
        let o = are.needed e.0.0 e.0.1 (so_far.reached, e.1) in
        let within : o.1.0 < length needs = slice_get_within needs o.1.0 o.0 o.1.1 in
        let a = so_far.before o.1.0 o.0 (omega (arith, within, past)) o.1.1 in
        let one : a.0 ≡ so_far.reached = are.once a.0 so_far.reached e.0.0 a.1 e.0.1 (subst (λ (w : Owner). slice_get items a.0 ≡ Some (w, a.1)) o.2 a.3) e.1 in
        let l : a.0 < so_far.reached = a.2 in
        omega (arith, one, l)

    reached_all : take so_far.reached items ≡ items
    reached_all =
        let all : so_far.reached ≡ length items = elim (cases_lt so_far.reached (length items)) as (λ _. so_far.reached ≡ length items) [
          | inl less ↦ absurd (none_left less)
          | inr upto ↦ (let inside = so_far.inside in omega (arith, upto, inside))
        ] in
        ap (λ (k : ℕ). take k items) all ∙ take_whole items

    pub whole : ArePlaceholders needs items fs ws
    whole = record {
      so_many_interfaces = so_far.so_many_interfaces ∙ ap interfaces_in reached_all;
      so_many_worlds = so_far.so_many_worlds ∙ ap worlds_in reached_all;
      interfaces = so_far.interfaces;
      worlds = so_far.worlds;
    }

-- ---- a loop over the needs

pub past_all : (ns : List Need) (k : ℕ) → length ns ≤ k → length (seen.needs ns) ≤ k
past_all ns k past = (let e = length-map ns seen.need in omega (arith, e, past))
