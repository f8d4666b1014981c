-- Worlds by the places at which they stand.
use Rattle.std.proofs.Common.{◌≡◌, ℕ, ◌<◌, List, length, get_or, Some, map, sym, ap, ◌∙◌}
use Rattle.std.proofs.lemmas.Option.{slice_get-get_or, same_Some}
use Rattle.std.specs.Prelude.{slice_get}
use Rattle.wit_scopes.specs.Scopes as scope
use Rattle.wit_scopes.specs.Scopes.{WorldScope, ItemScope}
use Rattle.wit_interfaces.proofs.Viewing.{stands_at, so_many_at}
use Rattle.wit_built_worlds.specs.Places.{worlds_at, AreWorldPlaces}

module _ (scopes : List ItemScope) (places : List ℕ) (are : AreWorldPlaces scopes places) where
  pub world_stands : (n : ℕ) → n < length places → (w : WorldScope) × (slice_get scopes (get_or places n 0) ≡ Some (scope.world w))
  world_stands n within = (let s = stands_at scope.world scopes places (worlds_at scopes places) are n (get_or places n 0) (slice_get-get_or places n 0 within) in (s.0, s.2))

  pub world_there : (n : ℕ) → n < length places → (w : WorldScope) → slice_get scopes (get_or places n 0) ≡ Some (scope.world w) → slice_get (worlds_at scopes places) n ≡ Some w
  world_there n within w at =
      let s = stands_at scope.world scopes places (worlds_at scopes places) are n (get_or places n 0) (slice_get-get_or places n 0 within) in
      let same : scope.world s.0 ≡ scope.world w = same_Some (scope.world s.0) (scope.world w) (sym s.2 ∙ at) in
      let one : s.0 ≡ w = cc in
      s.1 ∙ ap (λ (v : WorldScope). Some v) one

  pub so_many_worlds : length (worlds_at scopes places) ≡ length places
  so_many_worlds = so_many_at scope.world scopes places (worlds_at scopes places) are
