-- Worlds one behind the other, as far as they are brought in.
use Rattle.std.proofs.Common.{◌≡◌, ℕ, ◌+◌, List, [], ◌∷◌, ◌++◌, length, length-append, Some, None, Option, map, take, refl, sym, subst, ap, ◌∙◌, append_assoc, append-nil, arith}
use Rattle.std.proofs.lemmas.Option.{same_Some, slice_get-map}
use Rattle.std.proofs.lemmas.List.{map_push}
use Rattle.std.specs.Prelude.{slice_get, flat_map, option_map}
use Rattle.name_places.specs.FirstPlaces.{place_of}
use Rattle.name_places.proofs.Places.{place_names}
use Rattle.wit_types.specs.declared.interface.Interface.{Interface}
use Rattle.wit_types.specs.declared.interface.TypeDef.{TypeDef}
use Rattle.wit_types.specs.declared.world.World.{World}
use Rattle.wit_scopes.specs.Scopes.{WorldScope}
use Rattle.wit_scopes.proofs.Lists.{flat_map-push}
use Rattle.wit_rules.specs.Breaks.{IsKept}
use Rattle.wit_rules.proofs.Breaking.{AreKept, kept_more}
use Rattle.wit_rules.proofs.Places.{taken}
use Rattle.wit_interfaces.specs.Passed.wit_arena-Tree.{Name, in_world}
use Rattle.wit_interfaces.specs.Passed.wit_package_types-Known.{KnownTypes}
use Rattle.wit_readiness.specs.Passed.wit_foreign-Items.{Items, worlds_in}
use Rattle.wit_interfaces.specs.Passed.wit_resolved_scopes-InArena.{Context, own_owner, IsBuilt, IsIdOf}
use Rattle.wit_interfaces.specs.Passed.wit_resolved_scopes-Texts.{InterfaceText, labelled_texts}
use Rattle.wit_interfaces.proofs.Passed.wit_resolved_scopes-Listing.{none_new}
use Rattle.wit_interfaces.proofs.Passed.wit_resolved_scopes-Orders.{at_taken}
use Rattle.wit_interfaces.specs.Interfaces.{AreInterfacesIn}
use Rattle.wit_interfaces.proofs.Behind.{get_middle, given_around}
use Rattle.wit_interfaces.proofs.Growing.{grows_for_self, grows_for_through, interfaces_grown, no_interfaces}
use Rattle.wit_interfaces.proofs.Labelling.{interfaces_behind}
use Rattle.wit_interfaces.specs.Listed.{IsListed, NewTypesAreListed}
use Rattle.wit_interfaces.proofs.Listing.{listed_through}
use Rattle.wit_worlds.specs.Paths.{LeadRight}
use Rattle.wit_worlds.specs.Worlds.{IsWorldIn, AreWorldsIn}
use Rattle.wit_built_worlds.specs.Adding.{WorldBreaks, paths_of, MayAddWorld, AddsWorld, MayAddWorlds, AddsWorlds}
use Rattle.wit_built_worlds.proofs.Growing.{worlds_grown, no_worlds, worlds_more}

module _ (k0 : KnownTypes) (a0 : List TypeDef) (old : List Interface) (items : Items) (first : List World) (ws : List WorldScope) where
  pub record SoFar (n : ℕ) (k : KnownTypes) (a : List TypeDef) (interfaces : List Interface) (names : List Name) (worlds : List World) : Type 0 where
    pub known : k ≡ k0
    pub names_are : names ≡ map (λ w. w.name.text) (take n ws)
    pub so_many : length worlds ≡ length first + n
    pub adds : (c : Context) → MayAddWorlds c k0 a0 old items first ws → AddsWorlds c k0 a0 old first (take n ws) a interfaces worlds
    pub kept : (c : Context) → MayAddWorlds c k0 a0 old items first ws → AreKept (WorldBreaks c) ws n

  pub none_so_far : (names : List Name) → names ≡ [] → SoFar 0 k0 a0 old names first
  none_so_far names none = record {
    known = refl;
    names_are = none;
    so_many = omega arith;
    adds = λ c may. record {
      grows = grows_for_self c k0 a0 may.built;
      built = may.built;
      labelled = [];
      interfaces_behind = sym (append-nil old);
      labelled_are = no_interfaces c a0 (length old);
      more = [];
      behind = sym (append-nil first);
      are_in = no_worlds c a0 (length first);
      listed = none_new (IsListed c (record { interfaces = []; worlds = [] }) a0 old first) a0;
    };
    kept = λ c may j x less at. absurd (omega (arith, less));
  }

  module _ (numbered : length first ≡ worlds_in items) (n : ℕ) (w : WorldScope) (there : slice_get ws n ≡ Some w) (k : KnownTypes) (a : List TypeDef) (interfaces : List Interface) (names : List Name) (worlds : List World) (so_far : SoFar n k a interfaces names worlds) where
    -- the texts of the interfaces that stand in the worlds in front of it
    around : (rest : List InterfaceText) × (flat_map labelled_texts ws ≡ flat_map labelled_texts (take n ws) ++ (labelled_texts w ++ rest))
    around = given_around labelled_texts ws n w there

    interfaces_so_far : (c : Context) (may : MayAddWorlds c k0 a0 old items first ws) → length interfaces ≡ length old + length (flat_map labelled_texts (take n ws))
    interfaces_so_far c may =
        let adds = so_far.adds c may in
        ap length adds.interfaces_behind ∙ length-append old adds.labelled ∙ ap (λ (m : ℕ). length old + m) adds.labelled_are.so_many

    labelled_next : (c : Context) (may : MayAddWorlds c k0 a0 old items first ws) (m : ℕ) (t : InterfaceText) → slice_get (labelled_texts w) m ≡ Some t → IsIdOf c t (length interfaces + m)
    labelled_next c may m t at =
        let size : length interfaces ≡ length old + length (flat_map labelled_texts (take n ws)) = interfaces_so_far c may in
        let place : length old + (length (flat_map labelled_texts (take n ws)) + m) ≡ length interfaces + m = omega (arith, size) in
        subst (IsIdOf c t) place (may.labelled (length (flat_map labelled_texts (take n ws)) + m) t (get_middle (flat_map labelled_texts ws) (flat_map labelled_texts (take n ws)) (labelled_texts w) around.0 around.1 m t at))

    -- the worlds in front of it have the ids behind those of other packages
    own_world : (c : Context) (may : MayAddWorlds c k0 a0 old items first ws) (x : Name) (p : ℕ) → place_of x names ≡ Some p → slice_get c.owners.worlds (worlds_in items + p) ≡ Some (own_owner c (in_world x))
    own_world c may x p at = by (slice_get (take n ws) p) refl
      where
        named : option_map (λ (v : WorldScope). v.name.text) (slice_get (take n ws) p) ≡ Some x
        named = sym (slice_get-map (λ (v : WorldScope). v.name.text) (take n ws) p) ∙ ap (λ (ns : List Name). slice_get ns p) (sym so_far.names_are) ∙ place_names x names p at

        by : (o : Option WorldScope) → slice_get (take n ws) p ≡ o → slice_get c.owners.worlds (worlds_in items + p) ≡ Some (own_owner c (in_world x))
        by None e = absurd (let f : None ≡ Some x = sym (ap (option_map (λ (v : WorldScope). v.name.text)) e) ∙ named in cc)
        by (Some v) e =
            let t = at_taken ws p n v e in
            let same : v.name.text ≡ x = same_Some v.name.text x (sym (ap (option_map (λ (z : WorldScope). z.name.text)) e) ∙ named) in
            ap (λ (m : ℕ). slice_get c.owners.worlds (m + p)) (sym numbered) ∙ may.owners p v t.1 ∙ ap (λ (y : Name). Some (own_owner c (in_world y))) same

    leads_next : (c : Context) (may : MayAddWorlds c k0 a0 old items first ws) → LeadRight c (paths_of k items names)
    leads_next c may = record {
      own_interfaces = λ x p at. may.own_interfaces x p (ap (λ (z : KnownTypes). place_of x z.names) (sym so_far.known) ∙ at);
      foreign_interfaces = may.foreign_interfaces;
      own_worlds = own_world c may;
      foreign_worlds = may.foreign_worlds;
    }

    pub may_add_next : (c : Context) → MayAddWorlds c k0 a0 old items first ws → MayAddWorld c k a interfaces worlds (paths_of k items names) w
    may_add_next c may = record {
      built = subst (λ (z : KnownTypes). IsBuilt c z a) (sym so_far.known) (so_far.adds c may).built;
      there = may.there w (n, there);
      owner = ap (slice_get c.owners.worlds) so_far.so_many ∙ may.owners n w there;
      labelled = labelled_next c may;
      leads = leads_next c may;
    }

    module _ (k2 : KnownTypes) (b : List TypeDef) (interfaces2 : List Interface) (names2 : List Name) (worlds2 : List World) (known2 : k2 ≡ k) (named2 : names2 ≡ names ++ w.name.text ∷ []) (so_many2 : length worlds2 ≡ length worlds + 1)
        (adds : (c : Context) → MayAddWorld c k a interfaces worlds (paths_of k items names) w → AddsWorld c k a interfaces worlds w b interfaces2 worlds2)
        (kept : (c : Context) → MayAddWorld c k a interfaces worlds (paths_of k items names) w → IsKept (WorldBreaks c w))
      where
        next_adds : (c : Context) → MayAddWorlds c k0 a0 old items first ws → AddsWorlds c k0 a0 old first (take (n + 1) ws) b interfaces2 worlds2
        next_adds c may =
            let x = so_far.adds c may in
            let y = adds c (may_add_next c may) in
            let size : length interfaces ≡ length old + length x.labelled = ap length x.interfaces_behind ∙ length-append old x.labelled in
            let place : length worlds ≡ length first + length x.more = ap length x.behind ∙ length-append first x.more in
            record {
              grows = grows_for_through c a0 a b x.grows y.grows;
              built = subst (λ (z : KnownTypes). IsBuilt c z b) so_far.known y.built;
              labelled = x.labelled ++ y.labelled;
              interfaces_behind = y.interfaces_behind ∙ ap (λ (ds : List Interface). ds ++ y.labelled) x.interfaces_behind ∙ append_assoc old x.labelled y.labelled;
              labelled_are =
                  subst (λ (ts : List InterfaceText). AreInterfacesIn c b (length old) ts (x.labelled ++ y.labelled)) (sym (ap (flat_map labelled_texts) (taken ws n w there) ∙ flat_map-push labelled_texts (take n ws) w))
                  (interfaces_behind c b (length old) (flat_map labelled_texts (take n ws)) (labelled_texts w) x.labelled y.labelled (interfaces_grown c a b y.grows (length old) (flat_map labelled_texts (take n ws)) x.labelled x.labelled_are)
                  (subst (λ (m : ℕ). AreInterfacesIn c b m (labelled_texts w) y.labelled) size y.labelled_are));
              more = x.more ++ y.made ∷ [];
              behind = y.behind ∙ ap (λ (ds : List World). ds ++ y.made ∷ []) x.behind ∙ append_assoc first x.more (y.made ∷ []);
              are_in =
                  subst (λ (vs : List WorldScope). AreWorldsIn c b (length first) vs (x.more ++ y.made ∷ [])) (sym (taken ws n w there))
                  (worlds_more c b (length first) (take n ws) x.more w y.made (worlds_grown c a b y.grows (length first) (take n ws) x.more x.are_in) (subst (λ (m : ℕ). IsWorldIn c b w m y.made) place y.is));
              listed =
                  subst (λ (vs : List WorldScope). NewTypesAreListed c (record { interfaces = flat_map labelled_texts vs; worlds = vs }) interfaces2 worlds2 a0 b) (sym (taken ws n w there))
                  (subst (λ (ts : List InterfaceText). NewTypesAreListed c (record { interfaces = ts; worlds = take n ws ++ w ∷ [] }) interfaces2 worlds2 a0 b) (sym (flat_map-push labelled_texts (take n ws) w))
                  (listed_through c interfaces interfaces2 y.labelled y.interfaces_behind worlds worlds2 (y.made ∷ []) y.behind (record { interfaces = flat_map labelled_texts (take n ws); worlds = take n ws }) (record { interfaces = labelled_texts w; worlds = w ∷ [] }) a0 a b
                  y.grows x.listed y.listed));
            }

        pub next_so_far : SoFar (n + 1) k2 b interfaces2 names2 worlds2
        next_so_far = record {
          known = known2 ∙ so_far.known;
          names_are = named2 ∙ ap (λ (ns : List Name). ns ++ w.name.text ∷ []) so_far.names_are ∙ sym (map_push (λ (v : WorldScope). v.name.text) (take n ws) w) ∙ ap (map (λ (v : WorldScope). v.name.text)) (sym (taken ws n w there));
          so_many = let more : length worlds2 ≡ length worlds + 1 = so_many2 in let was : length worlds ≡ length first + n = so_far.so_many in omega (arith, more, was);
          adds = next_adds;
          kept = λ c may. kept_more (WorldBreaks c) ws n w there (so_far.kept c may) (kept c (may_add_next c may));
        }
