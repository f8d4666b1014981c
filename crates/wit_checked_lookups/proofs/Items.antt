-- Interfaces and worlds by their names.
use Rattle.std.proofs.Common.{◌≡◌, ℕ, ◌<◌, List, Option, Some, None, map, length, sym, ap, subst, ◌∙◌}
use Rattle.std.proofs.lemmas.List.{length-map}
use Rattle.std.proofs.lemmas.Option.{slice_get-map}
use Rattle.std.specs.Prelude.{slice_get, option_map, option_and_then}
use Rattle.name_places.specs.FirstPlaces.{place_of}
use Rattle.wit_scopes.specs.declared.scopes.ItemScope.{ItemScope as Item}
use Rattle.wit_scopes.specs.View.{item_scope}
use Rattle.wit_checked_lookups.specs.declared.names.PackageNames.{PackageNames}
use Rattle.wit_lookups.specs.Names.{Name, item_type_names, item_of}
use Rattle.wit_checked_lookups.specs.View.{AreNames}

module _ (scopes : List Item) (index : PackageNames) (are : AreNames (map item_scope scopes) index) where
  -- what stands at the place of a name is what has that name
  pub item_at : (x : Name) (place : ℕ) (o : Option Item) → place_of x index.items ≡ Some place → slice_get scopes place ≡ o → item_of (map item_scope scopes) x ≡ option_map item_scope o
  item_at x place o e there =
      ap (λ (ns : List Name). option_and_then (slice_get (map item_scope scopes)) (place_of x ns)) (sym are.items) ∙ ap (option_and_then (slice_get (map item_scope scopes))) e ∙ slice_get-map item_scope scopes place ∙ ap (option_map item_scope) there

  pub item_none : (x : Name) → place_of x index.items ≡ None → item_of (map item_scope scopes) x ≡ None
  item_none x e = ap (λ (ns : List Name). option_and_then (slice_get (map item_scope scopes)) (place_of x ns)) (sym are.items) ∙ ap (option_and_then (slice_get (map item_scope scopes))) e

  pub types_within : (place : ℕ) → place < length scopes → place < length index.types.items
  types_within place less = subst (λ (n : ℕ). place < n) (sym (ap length are.types ∙ length-map (map item_scope scopes) item_type_names ∙ length-map scopes item_scope)) less

  -- the names of the types of what stands at a place
  pub types_at : (place : ℕ) (s : Item) → slice_get scopes place ≡ Some s → slice_get index.types.items place ≡ Some (item_type_names (item_scope s))
  types_at place s there =
      ap (λ (all : List (List Name)). slice_get all place) are.types ∙ slice_get-map item_type_names (map item_scope scopes) place ∙ ap (option_map item_type_names) (slice_get-map item_scope scopes place ∙ ap (option_map item_scope) there)

  pub item_of_place : (x : Name) (place : ℕ) → place_of x index.items ≡ Some place → item_of (map item_scope scopes) x ≡ slice_get (map item_scope scopes) place
  item_of_place x place e =
      ap (λ (ns : List Name). option_and_then (slice_get (map item_scope scopes)) (place_of x ns)) (sym are.items) ∙ ap (option_and_then (slice_get (map item_scope scopes))) e
