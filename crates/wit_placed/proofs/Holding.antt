-- Interfaces that hold their types, and a package whose interfaces do, put behind them.
use Rattle.std.proofs.Common.{◌≡◌, ℕ, zero, suc, ◌+◌, ◌<◌, ◌≤◌, true, List, [], ◌∷◌, ◌++◌, ◌⊎◌, inl, inr, Option, Some, None, String, refl, sym, subst, ap, ◌∙◌, arith, length, map}
use Rattle.std.proofs.lemmas.Bool.{and_parts}
use Rattle.std.proofs.lemmas.Option.{same_Some, slice_get_within}
use Rattle.std.specs.Prelude.{slice_get, unwrap_or, bytes_eq, string_bytes}
use Rattle.std.specs.declared.alloc.Global.{Global}
use Rattle.wit_plans.specs.Passed.wit_order-Order.{Has}
use Rattle.wit_plans.specs.Passed.wit_types-declared-function-Function.{Function}
use Rattle.wit_plans.specs.Passed.wit_types-declared-interface-Interface.{Interface}
use Rattle.wit_plans.specs.Passed.wit_types-declared-interface-TypeDef.{TypeDef}
use Rattle.wit_plans.specs.Passed.wit_types-declared-interface-TypeOwner.{TypeOwner}
use Rattle.wit_plans.specs.Passed.wit_types-declared-interface-TypeOwner-TheVariants as belongs
use Rattle.wit_plans.specs.Passed.wit_features-Features.{FeatureSet, stays as gate_stays}
use Rattle.wit_moved_trees.specs.Passed.wit_moves-Breaks.{AnyOf, IsKept}
use Rattle.wit_moved_trees.specs.Passed.wit_moves-Moved.{Places, place_of, is_placed, to, resource_of, is_resource_placed, IsMovedFunction}
use Rattle.wit_moved_trees.specs.Passed.wit_moves-Interfaces.{AreMovedNames, AreMovedFunctions, function_stays, FunctionsBreak}
use Rattle.wit_moved_trees.specs.Passed.wit_moves-Plan.{OwnerPlaces, is_owner_placed, moved_owner}
use Rattle.wit_plans.specs.Passed.wit_finding-Types.{type_in, interface_at, interface_of, type_found}
use Rattle.wit_plans.specs.Checks.{Standing, InterfaceBreaks}
use Rattle.wit_moved_trees.specs.Passed.wit_reach-Holding.{IsUpTo, IsMadeUpTo, listed_types, functions_ids, AreNamedOwned, IsTypeUnder, HoldTheirTypes}
use Rattle.wit_moved_trees.specs.Passed.wit_reach-Ids.{kind_ids, function_ids}
use Rattle.wit_moved_trees.specs.Passed.wit_reach-Types.{IsMadeOf, AreTypesBackward}
use Rattle.wit_moved_trees.proofs.Passed.wit_reach-Ends.{closed_ends}
use Rattle.wit_moved_trees.proofs.Passed.wit_reach-Growing.{get_same}
use Rattle.wit_moved_trees.proofs.Passed.wit_reach-Holding.{mapped_has, has_flat, flat_has, made_from, held_more, held_append}
use Rattle.wit_moved_trees.proofs.Moving.{placed_some}
use Rattle.wit_moved_trees.proofs.Parts.{kind_from, function_from, function_placed}
use Rattle.wit_moved_trees.proofs.Passed.wit_arena-Lists.{get_kept}
use Rattle.wit_placed.specs.There.{IsInterfaceThere}
use Rattle.wit_placed.specs.Order.{AreBehind, MovedInterfacesHoldTheirTypes, interface_places}
use Rattle.wit_placed.proofs.Entries.{entry_was}
use Rattle.wit_placed.proofs.Finding.{lookup_has}
use Rattle.wit_placed.proofs.Members.{has_get}
use Rattle.wit_placed.proofs.Order.{get_parts}
use Rattle.wit_placed.proofs.Own.{place_within, interfaces_rise, interface_from, IsFrom as IsInterfaceFrom}
use Rattle.wit_placed.proofs.Sides.{signature_placed}
use Rattle.wit_placed.proofs.Sources.{all_sources, AreSources, IsFrom}

-- ---- what is found

-- a type of an interface of another package, found in the interface where that stands
pub record IsFound (interfaces : List Interface) (places : Places) (d : TypeDef) (j : ℕ) : Type 0 where
  pub interface : ℕ
  pub owner_is : d.owner ≡ belongs.Interface interface
  pub place : ℕ
  pub stands : place_of places interface ≡ Some place
  pub here : Interface
  pub there : slice_get interfaces place ≡ Some here
  pub listed : Has (listed_types here) j

module _ (interfaces : List Interface) (places : Places) (d : TypeDef) (j : ℕ) where
  found_in : (i : ℕ) → d.owner ≡ belongs.Interface i → (p : ℕ) → place_of places i ≡ Some p → (o : Option Interface) → slice_get interfaces p ≡ o → (n : Option (String Global)) → type_in o n ≡ Some j → IsFound interfaces places d j
  found_in i of p stands None at n h = absurd cc
  found_in i of p stands (Some x) at None h = absurd cc
  found_in i of p stands (Some x) at (Some y) h =
      let r = lookup_has (λ (z : String Global). bytes_eq (string_bytes y) (string_bytes z)) x.types.entries j h in
      record { interface = i; owner_is = of; place = p; stands = stands; here = x; there = at; listed = mapped_has (λ (z : String Global × ℕ). z.1) x.types.entries (r.0, j) r.1 }

  found_at : (i : ℕ) → d.owner ≡ belongs.Interface i → (p : Option ℕ) → place_of places i ≡ p → type_in (interface_at interfaces p) d.name ≡ Some j → IsFound interfaces places d j
  found_at i of None stands h = absurd cc
  found_at i of (Some p) stands h = found_in i of p stands (slice_get interfaces p) refl d.name h

  found_of : (o : TypeOwner) → d.owner ≡ o → type_in (interface_of interfaces places o) d.name ≡ Some j → IsFound interfaces places d j
  found_of (belongs.Interface i) of h = found_at i of (place_of places i) refl h
  found_of (belongs.World w) of h = absurd cc
  found_of belongs.None of h = absurd cc

pub found : (interfaces : List Interface) (places : Places) (defs : List TypeDef) (i j : ℕ) → place_of (map (type_found interfaces places) defs) i ≡ Some j → (d : TypeDef) × (slice_get defs i ≡ Some d) × IsFound interfaces places d j
found interfaces places [] i j h = absurd cc
found interfaces places (d ∷ ds) zero j h = (d, refl, found_of interfaces places d j d.owner refl h)
found interfaces places (d ∷ ds) (suc i) j h = found interfaces places ds i j h

-- ---- what stays of an interface

-- it stands where it is moved
pub goes_to : (places : Places) (i j : ℕ) → is_placed places i ≡ true → to places i ≡ j → place_of places i ≡ Some j
goes_to places i j p is = (let s = placed_some (place_of places i) p in s.1 ∙ ap (λ (n : ℕ). Some n) (sym (ap (λ (o : Option ℕ). unwrap_or o i) s.1) ∙ is))

-- a name that stands there was one
pub name_was : (places : Places) (old new : List (String Global × ℕ)) (e : String Global × ℕ) → AreMovedNames places old new → Has new e → (i : ℕ) × Has old (e.0, i) × (place_of places i ≡ Some e.1)
name_was places old new e kept h = (let r = entry_was (is_placed places) (λ (i j : ℕ). j ≡ to places i) old new kept e h in (r.0, r.1, goes_to places r.0 e.1 r.2 (sym r.3)))

-- so was a function
pub function_was : (features : FeatureSet) (places : Places) (old new : List (String Global × Function)) (e : String Global × Function) → AreMovedFunctions features places old new → Has new e
    → (f : String Global × Function) × Has old f × (function_stays features places f.1 ≡ true) × IsMovedFunction (to places) f.1 e.1
function_was features places old new e kept h = (let r = entry_was (function_stays features places) (IsMovedFunction (to places)) old new kept e h in ((e.0, r.0), r.1, r.2, r.3))

pub interface_kept : (features : FeatureSet) (s : Standing) (ds : List Interface) → IsKept (AnyOf (InterfaceBreaks features s) ds) → (k : ℕ) (d : Interface) → slice_get ds k ≡ Some d → gate_stays features d.stability ≡ true → IsKept (FunctionsBreak features s.types d.functions.entries)
interface_kept features s [] kept k d at st = absurd cc
interface_kept features s (x ∷ ds) kept zero d at st = λ where_ b. kept where_ (inl (subst (λ (y : Interface). InterfaceBreaks features s y where_) (sym (same_Some x d at)) (st, b)))
interface_kept features s (x ∷ ds) kept (suc k) d at st = interface_kept features s ds (λ where_ b. kept where_ (inr b)) k d at st

pub get_behind : (us xs : List TypeDef) (k : ℕ) → slice_get (us ++ xs) (length us + k) ≡ slice_get xs k
get_behind [] xs k = ap (slice_get xs) (omega arith)
get_behind (u ∷ us) xs k = (let e : length (u ∷ us) + k ≡ suc (length us + k) = omega arith in ap (slice_get (u ∷ (us ++ xs))) e ∙ get_behind us xs k)

no_owner : (owners : OwnerPlaces) (o : TypeOwner) → moved_owner owners o ≡ belongs.None → o ≡ belongs.None
no_owner owners belongs.None e = refl
no_owner owners (belongs.World w) e = absurd cc
no_owner owners (belongs.Interface i) e = absurd cc

-- all that functions are made of is there
pub functions_there : (types : List TypeDef) (interfaces : List Interface) → ((d : Interface) → Has interfaces d → IsInterfaceThere types d) → (k : ℕ) (d : Interface) → slice_get interfaces k ≡ Some d → (i : ℕ) → Has (functions_ids d) i → i < length types
functions_there types interfaces there k d at i h =
    let g = has_flat (λ (z : String Global × Function). function_ids z.1) d.functions.entries i h in
    (there d (has_get interfaces k d at)).functions g.0.1 (mapped_has (λ (z : String Global × Function). z.1) d.functions.entries g.0 g.1) i g.2

-- ---- behind a graph

module _ (features : FeatureSet) (owners : OwnerPlaces) (s : Standing) (owner : ℕ) (foreign own graph fs : List TypeDef) (others : Places) (own_interfaces new_interfaces interfaces : List Interface) (others_interfaces : Places)
    (b : AreBehind features owners s owner foreign own graph fs others own_interfaces new_interfaces others_interfaces (length interfaces)) (kept : IsKept (AnyOf (InterfaceBreaks features s) own_interfaces))
    (others_are : others ≡ map (type_found interfaces others_interfaces) foreign) (are_there : (d : Interface) → Has interfaces d → IsInterfaceThere graph d) (there : HoldTheirTypes 0 graph interfaces) (hold : HoldTheirTypes (length others_interfaces) (foreign ++ own) own_interfaces)
  where
    abbrev base : ℕ
    base = length interfaces

    abbrev Comes : ℕ → ℕ → Type 0
    Comes i j = IsFrom features owners others s.types graph own b.nameless b.placed own fs i j

    sources : AreSources features owners others s.types graph own b.nameless b.placed own fs s.types
    sources = all_sources features owners others s.types graph own b.nameless b.placed fs b.are_moved

    -- what is found of another package belongs to an interface that is there
    other_found : (i j : ℕ) → place_of others i ≡ Some j → (d : TypeDef) × (slice_get foreign i ≡ Some d) × IsFound interfaces others_interfaces d j
    other_found i j h = found interfaces others_interfaces foreign i j (subst (λ (ps : Places). place_of ps i ≡ Some j) others_are h)

    was_at : (i j : ℕ) (f : Comes i j) → slice_get (foreign ++ own) i ≡ Some f.old
    was_at i j f = subst (λ (n : ℕ). slice_get (foreign ++ own) n ≡ Some f.old) (ap (λ (n : ℕ). n + f.place) (sym b.so_many) ∙ sym f.index) (get_behind foreign own f.place ∙ f.was)

    -- ---- types with names

    named_moved : AreNamedOwned (graph ++ fs)
    named_moved i d x at named none = elim (get_parts graph fs i d at) as (λ _. ⊥) [
      | inl was ↦ there.named i d x was named none
      | inr new ↦
          let w = sources.were new.0 d new.2 in
          hold.named (length foreign + w.place) w.old x (get_behind foreign own w.place ∙ w.was) (sym w.moved.name ∙ named) (no_owner owners w.old.owner (sym w.moved.owner_is ∙ none))
    ]

    -- ---- one of the package's own interfaces

    module _ (k : ℕ) (e : Interface) (at : slice_get new_interfaces k ≡ Some e) where
      from : IsInterfaceFrom features s owner (length others_interfaces) base (interface_places features others_interfaces base own_interfaces) own_interfaces k e
      from = interface_from features s owner others_interfaces base own_interfaces new_interfaces b.interfaces_moved k e at

      -- its place there, and here
      abbrev was : ℕ
      was = length others_interfaces + from.place

      stands : place_of owners.interfaces was ≡ Some (base + k)
      stands = subst (λ (ps : Places). place_of ps was ≡ Some (base + k)) (sym b.places) from.stands

      -- a type of the graph that is made of those of one of its interfaces and of earlier ones, or of the package that is made of those of its own and of earlier ones
      abbrev IsUp : ℕ → Type 0
      IsUp j = ((a : ℕ) × (a < base) × (j < length graph) × IsMadeUpTo graph a j) ⊎ ((i : ℕ) × Comes i j × IsMadeUpTo (foreign ++ own) was i)

      of_other : (i j : ℕ) → place_of others i ≡ Some j → IsUp j
      of_other i j h =
          let f = other_found i j h in
          inl (f.2.place, slice_get_within interfaces f.2.place f.2.here f.2.there, b.others_within i j h, (let z : 0 + f.2.place ≡ f.2.place = omega arith in subst (λ (n : ℕ). IsMadeUpTo graph n j) z (there.types_use f.2.place j f.2.here f.2.there f.2.listed)))

      of_place : (i j : ℕ) → IsMadeUpTo (foreign ++ own) was i → place_of s.types i ≡ Some j → IsUp j
      of_place i j up h = elim (sources.sources i j h) as (λ _. IsUp j) [ inl o ↦ of_other i j o | inr f ↦ inr (i, f, up) ]

      step : (i j : ℕ) → IsUp i → IsMadeOf (graph ++ fs) i j → IsUp j
      step i j up (d, there_d, has) = elim up as (λ _. IsUp j) [
        | inl (a, less, low, made) ↦
            let here : slice_get graph i ≡ Some d = sym (get_same graph fs i low) ∙ there_d in
            let down : j < i = b.backward i j (d, there_d, has) in
            inl (a, less, (omega (arith, down, low)), made_from graph a i j (d, here, has) made)
        | inr (m, f, made) ↦
            let same : f.new ≡ d = same_Some f.new d (sym f.is ∙ there_d) in
            let part = kind_from (to s.types) f.old.kind f.new.kind j f.moved.kind (subst (λ (x : TypeDef). Has (kind_ids x.kind) j) (sym same) has) in
            of_place part.0 j (made_from (foreign ++ own) was m part.0 (f.old, was_at m i f, part.1) made) (goes_to s.types part.0 j (f.parts part.0 part.1) part.2)
      ]

      moved_up : (o : TypeOwner) → is_owner_placed owners o ≡ true → IsUpTo was o → IsUpTo (base + k) (moved_owner owners o)
      moved_up belongs.None p up = tt
      moved_up (belongs.World w) p up = absurd up
      moved_up (belongs.Interface o) p up =
          let j = placed_some (place_of owners.interfaces o) p in
          let is : to owners.interfaces o ≡ j.0 = ap (λ (q : Option ℕ). unwrap_or q o) j.1 in
          elim (lower o was up) as (λ _. to owners.interfaces o ≤ base + k) [
            | inl less ↦
                let l : j.0 < base + k =
                interfaces_rise features others_interfaces base own_interfaces b.below o was j.0 (base + k) (omega arith) less (subst (λ (ps : Places). place_of ps o ≡ Some j.0) b.places j.1) from.stands in
                omega (arith, is, l)
            | inr same ↦
                let one : j.0 ≡ base + k = same_Some j.0 (base + k) (sym j.1 ∙ ap (place_of owners.interfaces) same ∙ stands) in
                omega (arith, is, one)
          ]
        where
          lower : (a b : ℕ) → a ≤ b → (a < b) ⊎ (a ≡ b)
          lower zero zero l = inr refl
          lower zero (suc b) l = inl (omega arith)
          lower (suc a) zero l = absurd (omega (arith, l))
          lower (suc a) (suc b) l = elim (lower a b (omega (arith, l))) as (λ _. (suc a < suc b) ⊎ (suc a ≡ suc b)) [ inl m ↦ inl (omega (arith, m)) | inr m ↦ inr (ap suc m) ]

      up_to : (j : ℕ) (d : TypeDef) → slice_get (graph ++ fs) j ≡ Some d → IsUp j → IsUpTo (base + k) d.owner
      up_to j d at_d up = elim up as (λ _. IsUpTo (base + k) d.owner) [
        | inl (a, less, low, made) ↦ raised a d.owner less (made j d ([], refl) (sym (get_same graph fs j low) ∙ at_d))
        | inr (m, f, made) ↦
            let same : f.new ≡ d = same_Some f.new d (sym f.is ∙ at_d) in
            subst (IsUpTo (base + k)) (sym f.moved.owner_is ∙ ap (λ (x : TypeDef). x.owner) same) (moved_up f.old.owner f.owned (made m f.old ([], refl) (was_at m j f)))
      ]
        where
          raised : (a : ℕ) (o : TypeOwner) → a < base → IsUpTo a o → IsUpTo (base + k) o
          raised a belongs.None less h = tt
          raised a (belongs.Interface i) less h = (let l : i ≤ a = h in omega (arith, l, less))
          raised a (belongs.World w) less h = absurd h

      made_up_to : (j : ℕ) → IsUp j → IsMadeUpTo (graph ++ fs) (base + k) j
      made_up_to j up n d reach at_d = up_to n d at_d (closed_ends (IsMadeOf (graph ++ fs)) IsUp step j reach.0 n up reach.1)

      -- ---- what it holds

      theirs : (x : String Global × ℕ) → Has e.types.entries x → IsTypeUnder (graph ++ fs) (base + k) x
      theirs x h =
          let n = name_was s.types from.old.types.entries e.types.entries x from.moved.types h in
          let u = hold.theirs from.place from.old (x.0, n.0) from.was n.1 in
          elim (sources.sources n.0 x.1 n.2) as (λ _. IsTypeUnder (graph ++ fs) (base + k) x) [
            | inl o ↦
                let f = other_found n.0 x.1 o in
                let low : n.0 < length foreign = slice_get_within foreign n.0 f.0 f.1 in
                let same : f.0 ≡ u.type_def = same_Some f.0 u.type_def (sym f.1 ∙ sym (get_same foreign own n.0 low) ∙ u.there) in
                let owners_same : f.2.interface ≡ was = interface_same f.2.interface was (sym f.2.owner_is ∙ ap (λ (d : TypeDef). d.owner) same ∙ u.its) in
                let within : f.2.interface < length others_interfaces = place_within others_interfaces f.2.interface f.2.place f.2.stands in
                absurd (omega (arith, owners_same, within))
            | inr f ↦
                let same : f.old ≡ u.type_def = same_Some f.old u.type_def (sym (was_at n.0 x.1 f) ∙ u.there) in
                let its : f.new.owner ≡ belongs.Interface (base + k) = f.moved.owner_is ∙ ap (λ (d : TypeDef). moved_owner owners d.owner) same ∙ ap (moved_owner owners) u.its ∙ ap (λ (q : Option ℕ). belongs.Interface (unwrap_or q was)) stands in
                record { type_def = f.new; there = f.is; its = its; own_name = u.own_name; named = f.moved.name ∙ ap (λ (d : TypeDef). d.name) same ∙ u.named; is = u.is }
          ]
        where
          interface_same : (i j : ℕ) → belongs.Interface i ≡ belongs.Interface j → i ≡ j
          interface_same i j h = cc

      types_use : (j : ℕ) → Has (listed_types e) j → IsMadeUpTo (graph ++ fs) (base + k) j
      types_use j h =
          let x = entry_of e.types.entries j h in
          let n = name_was s.types from.old.types.entries e.types.entries (x.0, j) from.moved.types x.1 in
          made_up_to j (of_place n.0 j (hold.types_use from.place n.0 from.old from.was (mapped_has (λ (z : String Global × ℕ). z.1) from.old.types.entries (x.0, n.0) n.1)) n.2)
        where
          entry_of : (es : List (String Global × ℕ)) (i : ℕ) → Has (map (λ (z : String Global × ℕ). z.1) es) i → (x : String Global) × Has es (x, i)
          entry_of [] i h = absurd h
          entry_of (z ∷ es) i h = elim h as (λ _. (x : String Global) × Has (z ∷ es) (x, i)) [
            | inl here ↦ (z.0, inl (ap (λ (n : ℕ). (z.0, n)) here))
            | inr later ↦ (let r = entry_of es i later in (r.0, inr r.1))
          ]

      functions_use : (j : ℕ) → Has (functions_ids e) j → IsMadeUpTo (graph ++ fs) (base + k) j
      functions_use j h =
          let g = has_flat (λ (z : String Global × Function). function_ids z.1) e.functions.entries j h in
          let f = function_was features s.types from.old.functions.entries e.functions.entries g.0 from.moved.functions g.1 in
          let q = and_parts (gate_stays features f.0.1.stability) (is_resource_placed s.types (resource_of f.0.1.kind)) f.2 in
          let written = signature_placed features s.types from.old.functions.entries (interface_kept features s own_interfaces kept from.place from.old from.was from.kept) f.0 f.1 f.2 in
          let part = function_from (to s.types) f.0.1 g.0.1 j f.3 g.2 in
          let goes : place_of s.types part.0 ≡ Some j = goes_to s.types part.0 j (function_placed s.types f.0.1 q.1 written part.0 part.1) part.2 in
          made_up_to j (of_place part.0 j (hold.functions_use from.place part.0 from.old from.was (flat_has (λ (z : String Global × Function). function_ids z.1) from.old.functions.entries f.0 part.0 f.1 part.1)) goes)

    -- ---- all of them

    graph_backward : AreTypesBackward graph
    graph_backward i j (d, at, has) = b.backward i j (d, get_kept graph fs i d at, has)

    own_hold : HoldTheirTypes base (graph ++ fs) new_interfaces
    own_hold = record { named = named_moved; theirs = λ k e x at h. theirs k e at x h; types_use = λ k j e at h. types_use k e at j h; functions_use = λ k j e at h. functions_use k e at j h }

    all_hold : HoldTheirTypes 0 (graph ++ fs) (interfaces ++ new_interfaces)
    all_hold = held_append (graph ++ fs) interfaces new_interfaces (held_more graph fs graph_backward 0 interfaces (functions_there graph interfaces are_there) named_moved there) own_hold

pub interfaces_hold : MovedInterfacesHoldTheirTypes
interfaces_hold features owners s owner foreign own graph fs others own_interfaces new_interfaces interfaces others_interfaces b kept others_are are_there there hold =
    all_hold features owners s owner foreign own graph fs others own_interfaces new_interfaces interfaces others_interfaces b kept others_are are_there there hold
