-- What stands at the places of an order, one place more.
use Rattle.std.proofs.Common.{◌≡◌, ℕ, ◌+◌, ◌<◌, List, ◌∷◌, ◌++◌, [], length, get_or, take, append-nil, Option, Some, None, map, refl, sym, subst, ap, ◌∙◌}
use Rattle.std.proofs.Math.Seq.{take-length}
use Rattle.std.proofs.lemmas.List.{length-map, map_push}
use Rattle.std.proofs.lemmas.Option.{same_Some, slice_get-map, slice_get_within, slice_get-get_or}
use Rattle.std.specs.Prelude.{slice_get, option_map}
use Rattle.wit_scopes.proofs.Lists.{flat_map-push}
use Rattle.wit_scopes.specs.Scopes as scope
use Rattle.wit_scopes.specs.Scopes.{InterfaceScope, WorldScope, ItemScope}
use Rattle.wit_rules.proofs.Places.{taken}
use Rattle.wit_built_worlds.specs.Passed.wit_resolved_scopes-Texts.{interface_of, world_of, interfaces_of, worlds_of}
use Rattle.wit_built_worlds.specs.Passed.wit_interfaces-Places.{interface_where, interfaces_at, AreInterfacePlaces}
use Rattle.wit_built_worlds.specs.Places.{world_where, worlds_at, AreWorldPlaces}
use Rattle.wit_package.specs.Places.{interface_place, world_place, ArePlacesOf}

module _ {X : Type 0} (xs sorted : List X) (order : List ℕ) (are : map (slice_get xs) order ≡ map (λ (x : X). Some x) sorted) where
  -- what stands at one of the places
  pub next_at : (i : ℕ) → i < length order → (x : X) × (slice_get sorted i ≡ Some x) × (slice_get xs (get_or order i 0) ≡ Some x)
  next_at i within = by (slice_get sorted i) refl
    where
      whole : option_map (λ (z : X). Some z) (slice_get sorted i) ≡ Some (slice_get xs (get_or order i 0))
      whole = sym (slice_get-map (λ (z : X). Some z) sorted i) ∙ sym (ap (λ (os : List (Option X)). slice_get os i) are) ∙ slice_get-map (slice_get xs) order i ∙ ap (option_map (slice_get xs)) (slice_get-get_or order i 0 within)

      by : (o : Option X) → slice_get sorted i ≡ o → (x : X) × (o ≡ Some x) × (slice_get xs (get_or order i 0) ≡ Some x)
      by (Some x) e = (x, refl, same_Some (slice_get xs (get_or order i 0)) (Some x) (sym whole ∙ ap (option_map (λ (z : X). Some z)) e))
      by None e = absurd (let f : None ≡ Some (slice_get xs (get_or order i 0)) = sym (ap (option_map (λ (z : X). Some z)) e) ∙ whole in cc)

  pub next_within : (i : ℕ) → i < length order → get_or order i 0 < length xs
  next_within i within = (let n = next_at i within in slice_get_within xs (get_or order i 0) n.0 n.2)

  -- it goes behind
  pub sorted_more : (i : ℕ) → i < length order → (x : X) → slice_get xs (get_or order i 0) ≡ Some x → take (i + 1) sorted ≡ take i sorted ++ x ∷ []
  sorted_more i within x at =
      let n = next_at i within in
      let same : n.0 ≡ x = same_Some n.0 x (sym n.2 ∙ at) in
      taken sorted i n.0 n.1 ∙ ap (λ (z : X). take i sorted ++ z ∷ []) same

  pub so_many_sorted : length sorted ≡ length order
  so_many_sorted = sym (length-map sorted (λ (z : X). Some z)) ∙ sym (ap length are) ∙ length-map order (slice_get xs)

  -- behind the last place all is taken
  pub sorted_all : (i : ℕ) → i ≡ length order → take i sorted ≡ sorted
  sorted_all i end = ap (λ (k : ℕ). take k sorted) (end ∙ sym so_many_sorted) ∙ take-length sorted

-- ---- places of interfaces and of worlds

interfaces_more : (ss : List ItemScope) (ps : List ℕ) (p : ℕ) (s : ItemScope) → slice_get ss p ≡ Some s → interfaces_at ss (ps ++ p ∷ []) ≡ interfaces_at ss ps ++ interface_of s
interfaces_more ss ps p s at = flat_map-push (λ (q : ℕ). interface_where (slice_get ss q)) ps p ∙ ap (λ (o : Option ItemScope). interfaces_at ss ps ++ interface_where o) at

interface_places_more : (ss : List ItemScope) (ps : List ℕ) (p : ℕ) (i : InterfaceScope) → slice_get ss p ≡ Some (scope.ItemScope.interface i) → AreInterfacePlaces ss ps → AreInterfacePlaces ss (ps ++ p ∷ [])
interface_places_more ss ps p i at are =
    let wrap : InterfaceScope → Option ItemScope = λ j. Some (scope.ItemScope.interface j) in
    map_push (slice_get ss) ps p ∙ ap (λ (os : List (Option ItemScope)). os ++ slice_get ss p ∷ []) are ∙ ap (λ (o : Option ItemScope). map wrap (interfaces_at ss ps) ++ o ∷ []) at
    ∙ sym (map_push wrap (interfaces_at ss ps) i) ∙ ap (map wrap) (sym (interfaces_more ss ps p (scope.ItemScope.interface i) at))

worlds_more : (ss : List ItemScope) (ps : List ℕ) (p : ℕ) (s : ItemScope) → slice_get ss p ≡ Some s → worlds_at ss (ps ++ p ∷ []) ≡ worlds_at ss ps ++ world_of s
worlds_more ss ps p s at = flat_map-push (λ (q : ℕ). world_where (slice_get ss q)) ps p ∙ ap (λ (o : Option ItemScope). worlds_at ss ps ++ world_where o) at

world_places_more : (ss : List ItemScope) (ps : List ℕ) (p : ℕ) (w : WorldScope) → slice_get ss p ≡ Some (scope.world w) → AreWorldPlaces ss ps → AreWorldPlaces ss (ps ++ p ∷ [])
world_places_more ss ps p w at are =
    let wrap : WorldScope → Option ItemScope = λ v. Some (scope.world v) in
    map_push (slice_get ss) ps p ∙ ap (λ (os : List (Option ItemScope)). os ++ slice_get ss p ∷ []) are ∙ ap (λ (o : Option ItemScope). map wrap (worlds_at ss ps) ++ o ∷ []) at
    ∙ sym (map_push wrap (worlds_at ss ps) w) ∙ ap (map wrap) (sym (worlds_more ss ps p (scope.world w) at))

-- so far, and with one place more
module _ (ss : List ItemScope) (is ws : List ℕ) (so_far : List ItemScope) (are : ArePlacesOf ss so_far is ws) where
  one_more : (p : ℕ) (s : ItemScope) → slice_get ss p ≡ Some s → ArePlacesOf ss (so_far ++ s ∷ []) (is ++ interface_place s p) (ws ++ world_place s p)
  one_more p (scope.ItemScope.interface i) at = record {
    interface_places = interface_places_more ss is p i at are.interface_places;
    interfaces_are = interfaces_more ss is p (scope.ItemScope.interface i) at ∙ ap (λ (xs : List InterfaceScope). xs ++ i ∷ []) are.interfaces_are ∙ sym (flat_map-push interface_of so_far (scope.ItemScope.interface i));
    world_places = subst (AreWorldPlaces ss) (sym (append-nil ws)) are.world_places;
    worlds_are = ap (worlds_at ss) (append-nil ws) ∙ are.worlds_are ∙ sym (append-nil (worlds_of so_far)) ∙ sym (flat_map-push world_of so_far (scope.ItemScope.interface i));
  }
  one_more p (scope.world w) at = record {
    interface_places = subst (AreInterfacePlaces ss) (sym (append-nil is)) are.interface_places;
    interfaces_are = ap (interfaces_at ss) (append-nil is) ∙ are.interfaces_are ∙ sym (append-nil (interfaces_of so_far)) ∙ sym (flat_map-push interface_of so_far (scope.world w));
    world_places = world_places_more ss ws p w at are.world_places;
    worlds_are = worlds_more ss ws p (scope.world w) at ∙ ap (λ (xs : List WorldScope). xs ++ w ∷ []) are.worlds_are ∙ sym (flat_map-push world_of so_far (scope.world w));
  }

  pub places_more : (p : ℕ) (s : ItemScope) → slice_get ss p ≡ Some s → (js vs : List ℕ) → js ≡ is ++ interface_place s p → vs ≡ ws ++ world_place s p → ArePlacesOf ss (so_far ++ s ∷ []) js vs
  places_more p s at js vs interfaces worlds =
      subst (λ (xs : List ℕ). ArePlacesOf ss (so_far ++ s ∷ []) xs vs) (sym interfaces)
      (subst (λ (xs : List ℕ). ArePlacesOf ss (so_far ++ s ∷ []) (is ++ interface_place s p) xs) (sym worlds) (one_more p s at))

pub no_places : (ss : List ItemScope) → ArePlacesOf ss [] [] []
no_places ss = record { interface_places = refl; interfaces_are = refl; world_places = refl; worlds_are = refl }
