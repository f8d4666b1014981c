-- An owner of a package takes types by use where what stays of it stands behind a graph.
use Rattle.std.proofs.Common.{◌≡◌, ℕ, ◌+◌, ◌<◌, true, List, [], ◌++◌, ◌⊎◌, inl, inr, Some, String, refl, sym, subst, ap, ◌∙◌, arith, length, map}
use Rattle.std.proofs.lemmas.Bool.{eq-eqb, eqb-true}
use Rattle.std.proofs.lemmas.Option.{same_Some, slice_get_within}
use Rattle.std.specs.Prelude.{slice_get}
use Rattle.std.specs.declared.alloc.Global.{Global}
use Rattle.wit_joined.specs.Passed.wit_order-Order.{Has}
use Rattle.wit_joined.specs.Passed.wit_types-declared-kind-Type.{«Type» as Ref}
use Rattle.wit_joined.specs.Passed.wit_types-declared-kind-Type-TheVariants as ref
use Rattle.wit_joined.specs.Passed.wit_types-declared-kind-TypeDefKind.{TypeDefKind}
use Rattle.wit_joined.specs.Passed.wit_types-declared-kind-TypeDefKind-TheVariants as kind
use Rattle.wit_joined.specs.Passed.wit_types-declared-interface-Interface.{Interface}
use Rattle.wit_joined.specs.Passed.wit_types-declared-interface-TypeDef.{TypeDef}
use Rattle.wit_joined.specs.Passed.wit_types-declared-interface-TypeOwner.{TypeOwner}
use Rattle.wit_joined.specs.Passed.wit_types-declared-interface-TypeOwner-TheVariants as belongs
use Rattle.wit_joined.specs.Passed.wit_features-Features.{FeatureSet}
use Rattle.wit_joined.specs.Passed.wit_moves-Moved.{Places, place_of, to, moved_ref, IsMovedKind}
use Rattle.wit_joined.specs.Passed.wit_moves-Moved as moved
use Rattle.wit_joined.specs.Passed.wit_moves-Plan.{OwnerPlaces, is_owner_placed, moved_owner}
use Rattle.wit_joined.specs.Passed.wit_finding-Types.{type_found}
use Rattle.wit_joined.specs.Passed.wit_plans-Checks.{Standing}
use Rattle.wit_joined.specs.Passed.wit_reach-Holding.{HoldTheirTypes}
use Rattle.wit_joined.specs.Passed.wit_reach-Ids.{kind_ids}
use Rattle.wit_joined.specs.Passed.wit_reach-Made.{is_open, IsMadeOfWithin}
use Rattle.wit_joined.specs.Passed.wit_reach-Paths.{Reaches}
use Rattle.wit_joined.proofs.Passed.wit_reach-Ends.{closed_ends, reaches_more}
use Rattle.wit_joined.proofs.Passed.wit_reach-Growing.{get_same}
use Rattle.wit_joined.proofs.Passed.wit_reach-Holding.{has_mapped}
use Rattle.wit_placed.proofs.Passed.wit_moved_trees-Parts.{kind_from}
use Rattle.wit_joined.proofs.Passed.wit_arena-Lists.{get_kept}
use Rattle.wit_placed.specs.Order.{AreBehind}
use Rattle.wit_placed.proofs.Holding.{IsFound, found, goes_to, get_behind}
use Rattle.wit_placed.proofs.Own.{place_within}
use Rattle.wit_placed.proofs.Sources.{all_sources, AreSources, IsFrom}
use Rattle.wit_uses.specs.Uses.{IsOwn, IsUse, TakesByUse}

-- another name of a type is one of the type where that stands
alias_goes : (f : ℕ → ℕ) (k l : TypeDefKind) → IsMovedKind f k l → (i : ℕ) → k ≡ kind.Alias (ref.Id i) → l ≡ kind.Alias (ref.Id (f i))
alias_goes f _ _ (moved.moved_alias r) i e = (let same : r ≡ ref.Id i = cc in ap (λ (x : Ref). kind.Alias (moved_ref f x)) same)
alias_goes f _ _ _ i e = absurd cc

-- an owner sees into itself
self_open : (by : TypeOwner) → is_open by by ≡ true
self_open belongs.None = refl
self_open (belongs.World w) = eq-eqb w w refl
self_open (belongs.Interface i) = eq-eqb i i refl

-- and into nothing else but what belongs nowhere
open_own : (by o : TypeOwner) → is_open by o ≡ true → (o ≡ belongs.None) ⊎ (o ≡ by)
open_own by belongs.None e = inl refl
open_own (belongs.Interface j) (belongs.Interface i) e = inr (ap (λ (n : ℕ). belongs.Interface n) (eqb-true i j e))
open_own (belongs.World w) (belongs.World v) e = inr (ap (λ (n : ℕ). belongs.World n) (eqb-true v w e))
open_own (belongs.World w) (belongs.Interface i) e = absurd cc
open_own belongs.None (belongs.Interface i) e = absurd cc
open_own (belongs.Interface j) (belongs.World v) e = absurd cc
open_own belongs.None (belongs.World v) e = absurd cc

-- where it begins it began
pub record Began (places : Places) (start : ℕ → Type 0) (j : ℕ) : Type 0 where
  pub id : ℕ
  pub goes : place_of places id ≡ Some j
  pub starts : start id

module _ (features : FeatureSet) (owners : OwnerPlaces) (s : Standing) (owner : ℕ) (foreign own graph fs : List TypeDef) (others : Places) (own_interfaces new_interfaces interfaces : List Interface) (others_interfaces : Places)
    (b : AreBehind features owners s owner foreign own graph fs others own_interfaces new_interfaces others_interfaces (length interfaces)) (others_are : others ≡ map (type_found interfaces others_interfaces) foreign) (there : HoldTheirTypes 0 graph interfaces)
  where
    abbrev pub Comes : ℕ → ℕ → Type 0
    Comes i j = IsFrom features owners others s.types graph own b.nameless b.placed own fs i j

    pub sources : AreSources features owners others s.types graph own b.nameless b.placed own fs s.types
    sources = all_sources features owners others s.types graph own b.nameless b.placed fs b.are_moved

    -- what is found of another package belongs to an interface that is there
    pub other_found : (i j : ℕ) → place_of others i ≡ Some j → (d : TypeDef) × (slice_get foreign i ≡ Some d) × IsFound interfaces others_interfaces d j
    other_found i j h = found interfaces others_interfaces foreign i j (subst (λ (ps : Places). place_of ps i ≡ Some j) others_are h)

    pub was_at : (i j : ℕ) (f : Comes i j) → slice_get (foreign ++ own) i ≡ Some f.old
    was_at i j f = subst (λ (n : ℕ). slice_get (foreign ++ own) n ≡ Some f.old) (ap (λ (n : ℕ). n + f.place) (sym b.so_many) ∙ sym f.index) (get_behind foreign own f.place ∙ f.was)

    other_at : (i j : ℕ) (h : place_of others i ≡ Some j) → slice_get (foreign ++ own) i ≡ Some (other_found i j h).0
    other_at i j h = get_kept foreign own i (other_found i j h).0 (other_found i j h).1

    -- where that stands
    pub other_stands : (i j : ℕ) (h : place_of others i ≡ Some j) (d : TypeDef) → slice_get (graph ++ fs) j ≡ Some d → d.owner ≡ belongs.Interface (other_found i j h).2.place
    other_stands i j h d at =
        let f = (other_found i j h).2 in
        let e = has_mapped (λ (z : String Global × ℕ). z.1) f.here.types.entries j f.listed in
        let u = there.theirs f.place f.here e.0 f.there e.1 in
        let here : slice_get graph j ≡ Some d = sym (get_same graph fs j (b.others_within i j h)) ∙ at in
        let same : u.type_def ≡ d = same_Some u.type_def d (sym u.there ∙ ap (slice_get graph) e.2 ∙ here) in
        let z : 0 + f.place ≡ f.place = omega arith in
        sym (ap (λ (x : TypeDef). x.owner) same) ∙ u.its ∙ ap (λ (n : ℕ). belongs.Interface n) z

    other_owner : (i j : ℕ) → place_of others i ≡ Some j → (d : TypeDef) → slice_get (graph ++ fs) j ≡ Some d → (p : ℕ) × (p < length interfaces) × (d.owner ≡ belongs.Interface p)
    other_owner i j h d at = (let f = (other_found i j h).2 in (f.place, slice_get_within interfaces f.place f.here f.there, other_stands i j h d at))

    -- ---- one owner: whose it was and is, what is listed there, and where it begins

    module _ (by_was by : TypeOwner) (was_listed listed was_start start : ℕ → Type 0) (takes : TakesByUse (foreign ++ own) by_was was_listed was_start)
        (owner_goes : (o : TypeOwner) → IsOwn by_was o → IsOwn by (moved_owner owners o))
        (owner_came : (o : TypeOwner) → is_owner_placed owners o ≡ true → is_open by (moved_owner owners o) ≡ true → is_open by_was o ≡ true)
        (closed_to : (p : ℕ) → p < length interfaces → is_open by (belongs.Interface p) ≡ true → ⊥) (is_one : by ≡ belongs.None → ⊥)
        (others_not : (o : ℕ) → o < length others_interfaces → belongs.Interface o ≡ by_was → ⊥)
        (began : (j : ℕ) → start j → Began s.types was_start j) (listed_goes : (i m : ℕ) → was_listed i → place_of s.types i ≡ Some m → listed m)
      where
        not_own_was : (i j : ℕ) (h : place_of others i ≡ Some j) → IsOwn by_was (other_found i j h).0.owner → ⊥
        not_own_was i j h (inl none) = (let x = (other_found i j h).2.owner_is in let e : belongs.Interface (other_found i j h).2.interface ≡ belongs.None = sym x ∙ none in cc)
        not_own_was i j h (inr same) = (let f = (other_found i j h).2 in others_not f.interface (place_within others_interfaces f.interface f.place f.stands) (sym f.owner_is ∙ same))

        -- ---- what it sees was seen

        record CameFrom (m : ℕ) : Type 0 where
          id : ℕ
          goes : place_of s.types id ≡ Some m
          first : ℕ
          starts : was_start first
          reaches : Reaches (IsMadeOfWithin by_was (foreign ++ own)) first id

        -- a type into which it sees is one of its package's own, into which it saw
        record SawInto (i m : ℕ) (d : TypeDef) : Type 0 where
          comes : Comes i m
          same : comes.new ≡ d
          into : is_open by_was comes.old.owner ≡ true

        saw_into : (i m : ℕ) (d : TypeDef) → place_of s.types i ≡ Some m → slice_get (graph ++ fs) m ≡ Some d → is_open by d.owner ≡ true → SawInto i m d
        saw_into i m d goes at_d into = elim (sources.sources i m goes) as (λ _. SawInto i m d) [
          | inl o ↦
              let r = other_owner i m o d at_d in
              absurd (closed_to r.0 r.1 (sym (ap (is_open by) r.2) ∙ into))
          | inr f ↦
              let same : f.new ≡ d = same_Some f.new d (sym f.is ∙ at_d) in
              record { comes = f; same = same; into = owner_came f.old.owner f.owned (subst (λ (o : TypeOwner). is_open by o ≡ true) (sym (ap (λ (x : TypeDef). x.owner) same) ∙ f.moved.owner_is) into) }
        ]

        -- what that is made of stands somewhere
        record PartCame (i m j : ℕ) (f : Comes i m) : Type 0 where
          id : ℕ
          has : Has (kind_ids f.old.kind) id
          goes : place_of s.types id ≡ Some j
          is : to s.types id ≡ j

        part_came : (i m j : ℕ) (d : TypeDef) (f : Comes i m) → f.new ≡ d → Has (kind_ids d.kind) j → PartCame i m j f
        part_came i m j d f same has =
            let part = kind_from (to s.types) f.old.kind f.new.kind j f.moved.kind (subst (λ (x : TypeDef). Has (kind_ids x.kind) j) (sym same) has) in
            record { id = part.0; has = part.1; goes = goes_to s.types part.0 j (f.parts part.0 part.1) part.2; is = part.2 }

        step : (m j : ℕ) → CameFrom m → IsMadeOfWithin by (graph ++ fs) m j → CameFrom j
        step m j x (d, at_d, into, has) =
            let f = saw_into x.id m d x.goes at_d into in
            let part = part_came x.id m j d f.comes f.same has in
            record {
              id = part.id;
              goes = part.goes;
              first = x.first;
              starts = x.starts;
              reaches = reaches_more (IsMadeOfWithin by_was (foreign ++ own)) x.first x.id part.id x.reaches (f.comes.old, was_at x.id m f.comes, f.into, part.has);
            }

        came_from : (j m : ℕ) → start j → Reaches (IsMadeOfWithin by (graph ++ fs)) j m → CameFrom m
        came_from j m starts reach =
            let x = began j starts in
            closed_ends (IsMadeOfWithin by (graph ++ fs)) CameFrom step j reach.0 m (record { id = x.id; goes = x.goes; first = x.id; starts = x.starts; reaches = ([], refl) }) reach.1

        -- ---- so it takes types by use

        own_goes : (i m : ℕ) (f : Comes i m) (d : TypeDef) → f.new ≡ d → IsOwn by_was f.old.owner → IsOwn by d.owner
        own_goes i m f d same own_was = subst (IsOwn by) (sym f.moved.owner_is ∙ ap (λ (x : TypeDef). x.owner) same) (owner_goes f.old.owner own_was)

        starts_own : (j : ℕ) (d : TypeDef) → start j → slice_get (graph ++ fs) j ≡ Some d → IsOwn by d.owner
        starts_own j d starts at_d =
            let x = began j starts in
            elim (sources.sources x.id j x.goes) as (λ _. IsOwn by d.owner) [
              | inl o ↦ absurd (not_own_was x.id j o (takes.starts x.id (other_found x.id j o).0 x.starts (other_at x.id j o)))
              | inr f ↦ own_goes x.id j f d (same_Some f.new d (sym f.is ∙ at_d)) (takes.starts x.id f.old x.starts (was_at x.id j f))
            ]

        -- a use that was one is one
        use_goes : (i m : ℕ) (f : Comes i m) (d : TypeDef) (same : f.new ≡ d) (j : ℕ) (part : PartCame i m j f) (g c : TypeDef) → place_of s.types i ≡ Some m → IsUse was_listed i part.id f.old g
            → (q : ℕ) × (c.owner ≡ belongs.Interface q) → IsUse listed m j d c
        use_goes i m f d same j part g c goes u of = record {
          is_listed = listed_goes i m u.is_listed goes;
          kind_is = sym (ap (λ (x : TypeDef). x.kind) same) ∙ alias_goes (to s.types) f.old.kind f.new.kind f.moved.kind part.id u.kind_is ∙ ap (λ (n : ℕ). kind.Alias (ref.Id n)) part.is;
          interface = of.0;
          of = of.1;
        }

        parts_taken : (a m j : ℕ) (d c : TypeDef) → start a → Reaches (IsMadeOfWithin by (graph ++ fs)) a m → slice_get (graph ++ fs) m ≡ Some d → is_open by d.owner ≡ true → Has (kind_ids d.kind) j
            → slice_get (graph ++ fs) j ≡ Some c → IsOwn by c.owner ⊎ IsUse listed m j d c
        parts_taken a m j d c starts reach at_d into has at_c =
            let x = came_from a m starts reach in
            let f = saw_into x.id m d x.goes at_d into in
            let part = part_came x.id m j d f.comes f.same has in
            let found_was = takes.parts x.first x.id part.id f.comes.old in
            elim (sources.sources part.id j part.goes) as (λ _. IsOwn by c.owner ⊎ IsUse listed m j d c) [
              | inl o ↦ elim (found_was (other_found part.id j o).0 x.starts x.reaches (was_at x.id m f.comes) f.into part.has (other_at part.id j o)) as (λ _. IsOwn by c.owner ⊎ IsUse listed m j d c) [
                | inl own_was ↦ absurd (not_own_was part.id j o own_was)
                | inr u ↦ (let r = other_owner part.id j o c at_c in inr (use_goes x.id m f.comes d f.same j part (other_found part.id j o).0 c x.goes u (r.0, r.2)))
              ]
              | inr g ↦
                  let same : g.new ≡ c = same_Some g.new c (sym g.is ∙ at_c) in
                  elim (found_was g.old x.starts x.reaches (was_at x.id m f.comes) f.into part.has (was_at part.id j g)) as (λ _. IsOwn by c.owner ⊎ IsUse listed m j d c) [
                    | inl own_was ↦ inl (own_goes part.id j g c same own_was)
                    | inr u ↦
                        let its : c.owner ≡ belongs.Interface (to owners.interfaces u.interface) = sym (ap (λ (y : TypeDef). y.owner) same) ∙ g.moved.owner_is ∙ ap (moved_owner owners) u.of in
                        inr (use_goes x.id m f.comes d f.same j part g.old c x.goes u (to owners.interfaces u.interface, its))
                  ]
            ]
            -- ---- and lists what is its own

        owner_back : (o : TypeOwner) → is_owner_placed owners o ≡ true → moved_owner owners o ≡ by → o ≡ by_was
        owner_back o placed its = elim (open_own by_was o (owner_came o placed (ap (is_open by) its ∙ self_open by))) as (λ _. o ≡ by_was) [
          | inl none ↦ absurd (is_one (sym its ∙ ap (moved_owner owners) none))
          | inr same ↦ same
        ]

        lists_own : (a m : ℕ) (d : TypeDef) → start a → Reaches (IsMadeOfWithin by (graph ++ fs)) a m → slice_get (graph ++ fs) m ≡ Some d → d.owner ≡ by → listed m
        lists_own a m d starts reach at_d its =
            let x = came_from a m starts reach in
            elim (sources.sources x.id m x.goes) as (λ _. listed m) [
              | inl o ↦ (let r = other_owner x.id m o d at_d in absurd (closed_to r.0 r.1 (ap (is_open by) (sym r.2 ∙ its) ∙ self_open by)))
              | inr f ↦
                  let same : f.new ≡ d = same_Some f.new d (sym f.is ∙ at_d) in
                  let back : f.old.owner ≡ by_was = owner_back f.old.owner f.owned (sym f.moved.owner_is ∙ ap (λ (y : TypeDef). y.owner) same ∙ its) in
                  listed_goes x.id m (takes.lists x.first x.id f.old x.starts x.reaches (was_at x.id m f) back) x.goes
            ]

        pub moved_takes : TakesByUse (graph ++ fs) by listed start
        moved_takes = record { starts = starts_own; parts = parts_taken; lists = lists_own }
