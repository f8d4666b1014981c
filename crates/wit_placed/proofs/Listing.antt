-- Types that belong to an interface stand there, of a graph and of a package that is put behind it.
use Rattle.std.proofs.Common.{◌≡◌, ℕ, zero, suc, ◌+◌, ◌<◌, ◌≤◌, List, [], ◌∷◌, ◌++◌, inl, inr, Option, Some, String, sym, subst, ap, ◌∙◌, arith, length}
use Rattle.std.proofs.lemmas.Bool.{cases_lt}
use Rattle.std.specs.Prelude.{slice_get, unwrap_or, is_some}
use Rattle.std.specs.declared.alloc.Global.{Global}
use Rattle.wit_plans.specs.Passed.wit_order-Order.{Has}
use Rattle.wit_plans.specs.Passed.wit_types-declared-interface-Interface.{Interface}
use Rattle.wit_plans.specs.Passed.wit_types-declared-interface-TypeDef.{TypeDef}
use Rattle.wit_plans.specs.Passed.wit_types-declared-interface-TypeOwner-TheVariants as belongs
use Rattle.wit_plans.specs.Passed.wit_features-Features.{FeatureSet}
use Rattle.wit_moved_trees.specs.Passed.wit_moves-Moved.{Places, place_of, is_placed, to}
use Rattle.wit_moved_trees.specs.Passed.wit_moves-Interfaces.{AreMovedNames}
use Rattle.wit_moved_trees.specs.Passed.wit_moves-Plan.{OwnerPlaces}
use Rattle.wit_plans.specs.Checks.{Standing}
use Rattle.wit_moved_trees.specs.Passed.wit_reach-Deps.{interface_of}
use Rattle.wit_moved_trees.specs.Passed.wit_reach-Holding.{listed_types, AreListed}
use Rattle.wit_moved_trees.proofs.Passed.wit_reach-Growing.{get_same}
use Rattle.wit_moved_trees.proofs.Passed.wit_reach-Holding.{has_mapped, mapped_has}
use Rattle.wit_placed.specs.Order.{AreBehind, interface_places}
use Rattle.wit_placed.specs.Listed.{AreOwnersBehind, MovedTypesAreListed}
use Rattle.wit_placed.proofs.Entries.{entry_stays}
use Rattle.wit_placed.proofs.Holding.{get_behind}
use Rattle.wit_placed.proofs.Order.{get_parts}
use Rattle.wit_placed.proofs.Own.{interfaces_rise, interfaces_from, interface_from, IsFrom as IsInterfaceFrom}
use Rattle.wit_placed.proofs.Sources.{all_sources, owner_stands, AreSources}

-- a name stays where its type stands
name_goes : (places : Places) (old new : List (String Global × ℕ)) (x : String Global) (i j : ℕ) → AreMovedNames places old new → Has old (x, i) → place_of places i ≡ Some j → Has new (x, j)
name_goes places old new x i j kept has at =
    let r = entry_stays (is_placed places) (λ (m n : ℕ). n ≡ to places m) old new kept (x, i) has (ap is_some at) in
    let goes : r.0 ≡ j = r.2 ∙ ap (λ (o : Option ℕ). unwrap_or o i) at in
    subst (λ (n : ℕ). Has new (x, n)) goes r.1

module _ (features : FeatureSet) (owners : OwnerPlaces) (s : Standing) (owner : ℕ) (foreign own graph fs : List TypeDef) (others : Places) (own_interfaces new_interfaces interfaces : List Interface) (others_interfaces : Places)
    (b : AreBehind features owners s owner foreign own graph fs others own_interfaces new_interfaces others_interfaces (length interfaces)) (there : AreListed 0 graph interfaces) (own_owners : AreOwnersBehind (length others_interfaces) own)
    (listed : AreListed (length others_interfaces) (foreign ++ own) own_interfaces)
  where
    abbrev base : ℕ
    base = length interfaces

    abbrev places : Places
    places = interface_places features others_interfaces base own_interfaces

    sources : AreSources features owners others s.types graph own b.nameless b.placed own fs s.types
    sources = all_sources features owners others s.types graph own b.nameless b.placed fs b.are_moved

    -- what stands where one of the package's own does is that
    one_place : (k : ℕ) (e : Interface) (f : IsInterfaceFrom features s owner (length others_interfaces) base places own_interfaces k e) (i : ℕ) → place_of places i ≡ Some (base + k) → i ≡ length others_interfaces + f.place
    one_place k e f i at =
        let was : ℕ = length others_interfaces + f.place in
        let rise = interfaces_rise features others_interfaces base own_interfaces b.below in
        elim (cases_lt i was) as (λ _. i ≡ was) [
          | inl less ↦ absurd (let l : base + k < base + k = rise i was (base + k) (base + k) (omega arith) less at f.stands in omega (arith, l))
          | inr past ↦ elim (cases_lt was i) as (λ _. i ≡ was) [
            | inl more ↦ absurd (let l : base + k < base + k = rise was i (base + k) (base + k) (omega (arith, more)) more f.stands at in omega (arith, l))
            | inr not_past ↦ omega (arith, past, not_past)
          ]
        ]

    -- the interface of the package to which one of its types belongs
    owner_of : (n j : ℕ) (t : TypeDef) (at : slice_get fs n ≡ Some t) → interface_of t.owner ≡ Some j → (i : ℕ) × ((sources.were n t at).old.owner ≡ belongs.Interface i) × (place_of places i ≡ Some j)
    owner_of n j t at of =
        let w = sources.were n t at in
        let r = owner_stands owners w.old.owner j w.owned (sym (ap interface_of w.moved.owner_is) ∙ of) in
        (r.0, r.1, subst (λ (ps : Places). place_of ps r.0 ≡ Some j) b.places r.2)

    -- none belongs to an interface of the graph
    none_before : (n j : ℕ) (t : TypeDef) → slice_get fs n ≡ Some t → interface_of t.owner ≡ Some j → j < base → ⊥
    none_before n j t at of less =
        let w = sources.were n t at in
        let r = owner_of n j t at of in
        let behind : length others_interfaces ≤ r.0 = own_owners w.place r.0 w.old w.was (ap interface_of r.1) in
        let from : base ≤ j = interfaces_from features others_interfaces base own_interfaces r.0 j behind r.2 in
        omega (arith, less, from)

    -- one that belongs to an interface of the package stands there
    new_listed : (n k : ℕ) (t : TypeDef) (d : Interface) → slice_get fs n ≡ Some t → slice_get new_interfaces k ≡ Some d → interface_of t.owner ≡ Some (base + k) → Has (listed_types d) (length graph + n)
    new_listed n k t d at at_d of =
        let w = sources.were n t at in
        let r = owner_of n (base + k) t at of in
        let from = interface_from features s owner others_interfaces base own_interfaces new_interfaces b.interfaces_moved k d at_d in
        let same : r.0 ≡ length others_interfaces + from.place = one_place k d from r.0 r.2 in
        let its : interface_of w.old.owner ≡ Some (length others_interfaces + from.place) = ap interface_of r.1 ∙ ap (λ (i : ℕ). Some i) same in
        let has = listed (length foreign + w.place) from.place from.old from.was (w.old, get_behind foreign own w.place ∙ w.was, its) in
        let e = has_mapped (λ (z : String Global × ℕ). z.1) from.old.types.entries (length foreign + w.place) has in
        let goes : place_of s.types e.0.1 ≡ Some (length graph + n) = ap (place_of s.types) (e.2 ∙ ap (λ (m : ℕ). m + w.place) (sym b.so_many)) ∙ w.goes in
        mapped_has (λ (z : String Global × ℕ). z.1) d.types.entries (e.0.0, length graph + n) (name_goes s.types from.old.types.entries d.types.entries e.0.0 e.0.1 (length graph + n) from.moved.types e.1 goes)

    -- ---- all of them

    get_new : (xs ys : List Interface) (k : ℕ) (d : Interface) → slice_get (xs ++ ys) k ≡ Some d → length xs ≤ k → (j : ℕ) × (k ≡ length xs + j) × (slice_get ys j ≡ Some d)
    get_new [] ys k d at past = (k, omega arith, at)
    get_new (x ∷ xs) ys zero d at past = absurd (omega (arith, past))
    get_new (x ∷ xs) ys (suc k) d at past = (let r = get_new xs ys k d at (omega (arith, past)) in (r.0, (let e : k ≡ length xs + r.0 = r.1 in omega (arith, e)), r.2))

    all_listed : AreListed 0 (graph ++ fs) (interfaces ++ new_interfaces)
    all_listed i k d at (t, at_t, of) =
        let its : interface_of t.owner ≡ Some k = of ∙ ap (λ (n : ℕ). Some n) (let e : 0 + k ≡ k = omega arith in e) in
        elim (get_parts graph fs i t at_t) as (λ _. Has (listed_types d) i) [
          | inl was ↦ (let low : k < base = b.graph_owners i k t was its in there i k d (sym (get_same interfaces new_interfaces k low) ∙ at) (t, was, of))
          | inr new ↦ elim (cases_lt k base) as (λ _. Has (listed_types d) i) [
            | inl less ↦ absurd (none_before new.0 k t new.2 its less)
            | inr past ↦
                let r = get_new interfaces new_interfaces k d at (omega (arith, past)) in
                subst (Has (listed_types d)) (sym new.1) (new_listed new.0 r.0 t d new.2 r.2 (its ∙ ap (λ (n : ℕ). Some n) r.1))
          ]
        ]

pub types_listed : MovedTypesAreListed
types_listed features owners s owner foreign own graph fs others own_interfaces new_interfaces interfaces others_interfaces b there own_owners listed =
    all_listed features owners s owner foreign own graph fs others own_interfaces new_interfaces interfaces others_interfaces b there own_owners listed
