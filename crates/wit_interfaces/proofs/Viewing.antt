-- Interfaces and members of worlds of the code by their places.
use Rattle.std.proofs.Common.{◌≡◌, ℕ, ◌<◌, ◌≤◌, List, length, get_or, Option, Some, None, map, refl, sym, subst, ap, ◌∙◌, arith}
use Rattle.std.proofs.lemmas.Option.{slice_get-map, slice_get-get_or, same_Some}
use Rattle.std.proofs.lemmas.List.{length-map}
use Rattle.std.specs.Prelude.{slice_get, option_map}
use Rattle.wit_scopes.specs.declared.scopes.WorldScope.{WorldScope as World}
use Rattle.wit_scopes.specs.declared.worlds.WorldMember.{WorldMember}
use Rattle.wit_scopes.specs.Scopes as scope
use Rattle.wit_scopes.specs.Scopes.{InterfaceScope, ItemScope}
use Rattle.wit_scopes.specs.View as scope_view
use Rattle.wit_rules.proofs.Places.{read_at}
use Rattle.wit_interfaces.specs.Places.{interfaces_at, AreInterfacePlaces}

-- what stands at places of a list, of one kind
module _ {X Y : Type 0} (wrap : Y → X) (xs : List X) (places : List ℕ) (ys : List Y) (are : map (slice_get xs) places ≡ map (λ (y : Y). Some (wrap y)) ys) where
  pub stands_at : (n p : ℕ) → slice_get places n ≡ Some p → (y : Y) × (slice_get ys n ≡ Some y) × (slice_get xs p ≡ Some (wrap y))
  stands_at n p at = by (slice_get ys n) refl
    where
      whole : option_map (λ (y : Y). Some (wrap y)) (slice_get ys n) ≡ Some (slice_get xs p)
      whole = sym (slice_get-map (λ (y : Y). Some (wrap y)) ys n) ∙ sym (ap (λ (os : List (Option X)). slice_get os n) are) ∙ slice_get-map (slice_get xs) places n ∙ ap (option_map (slice_get xs)) at

      by : (o : Option Y) → slice_get ys n ≡ o → (y : Y) × (o ≡ Some y) × (slice_get xs p ≡ Some (wrap y))
      by (Some y) e = (y, refl, same_Some (slice_get xs p) (Some (wrap y)) (sym whole ∙ ap (option_map (λ (z : Y). Some (wrap z))) e))
      by None e = absurd (let f : None ≡ Some (slice_get xs p) = sym (ap (option_map (λ (z : Y). Some (wrap z))) e) ∙ whole in cc)

  pub so_many_at : length ys ≡ length places
  so_many_at = sym (length-map ys (λ (y : Y). Some (wrap y))) ∙ sym (ap length are) ∙ length-map places (slice_get xs)

module _ (scopes : List ItemScope) (places : List ℕ) (are : AreInterfacePlaces scopes places) where
  pub interface_stands : (n : ℕ) → n < length places → (i : InterfaceScope) × (slice_get scopes (get_or places n 0) ≡ Some (scope.ItemScope.interface i))
  interface_stands n within = (let s = stands_at scope.ItemScope.interface scopes places (interfaces_at scopes places) are n (get_or places n 0) (slice_get-get_or places n 0 within) in (s.0, s.2))

  pub interface_there : (n : ℕ) → n < length places → (i : InterfaceScope) → slice_get scopes (get_or places n 0) ≡ Some (scope.ItemScope.interface i) → slice_get (interfaces_at scopes places) n ≡ Some i
  interface_there n within i at =
      let s = stands_at scope.ItemScope.interface scopes places (interfaces_at scopes places) are n (get_or places n 0) (slice_get-get_or places n 0 within) in
      let same : scope.ItemScope.interface s.0 ≡ scope.ItemScope.interface i = same_Some (scope.ItemScope.interface s.0) (scope.ItemScope.interface i) (sym s.2 ∙ at) in
      let one : s.0 ≡ i = cc in
      s.1 ∙ ap (λ (j : InterfaceScope). Some j) one

  pub so_many_interfaces : length (interfaces_at scopes places) ≡ length places
  so_many_interfaces = so_many_at scope.ItemScope.interface scopes places (interfaces_at scopes places) are

module _ (w : World) (ms : List WorldMember) (items : ms ≡ w.members.items) (n : ℕ) where
  pub world_member_at : (m : WorldMember) → n < length ms → m ≡ get_or ms n m → slice_get (scope_view.world_scope w).members n ≡ Some (scope_view.world_member m)
  world_member_at m within here =
      subst (λ (xs : List WorldMember). slice_get (map scope_view.world_member xs) n ≡ Some (scope_view.world_member m)) items
      (slice_get-map scope_view.world_member ms n ∙ ap (option_map scope_view.world_member) (read_at ms n m within here))

  pub past_members : length ms ≤ n → length (scope_view.world_scope w).members ≤ n
  past_members past = let size : length (scope_view.world_scope w).members ≡ length ms = length-map w.members.items scope_view.world_member ∙ sym (ap length items) in omega (arith, past)
