-- Items that are found, and those that aren't.
use Rattle.std.proofs.Common.{◌≡◌, ◌∙◌, ℕ, List, [], ◌∷◌, Some, None, refl, sym, ap, subst, map}
use Rattle.std.specs.Map.{lookup}
use Rattle.wit_types.specs.declared.«package».AstItem.{AstItem}
use Rattle.wit_types.specs.declared.«package».AstItem.TheVariants as ids
use Rattle.wit_lookups.specs.declared.asks.Asked.{Asked}
use Rattle.wit_lookups.specs.declared.asks.Asked.TheVariants.{Interface, World}
use Rattle.wit_package_types.specs.Passed.wit_arena-Tree.{Name, Place, in_interface, in_world, in_listed, Owner}
use Rattle.wit_package_types.specs.Passed.wit_arena-Meaning.{Has}
use Rattle.wit_package_types.proofs.Passed.wit_arena-Lists.{has_map, map_has}
use Rattle.wit_package_types.proofs.Passed.wit_arena-Tables.{keyed_found, keyed_none, keyed_absent}
use Rattle.wit_foreign.specs.declared.items.ItemPath.{ItemPath}
use Rattle.wit_foreign.specs.Items.{Items, place_asked, id_asked}
use Rattle.wit_foreign.specs.ItemView.{path_owner, item_entries}
use Rattle.wit_foreign.proofs.ItemPaths.{path_eq, path_eq-Decides}

-- the id of that number, by the place
abbrev id_at : Place → ℕ → AstItem
id_at (in_interface x) k = ids.Interface k
id_at (in_world x) k = ids.World k
id_at (in_listed w s x) k = ids.World k

id_same : (a : Asked) (x : Name) (k : ℕ) → id_asked a k ≡ id_at (place_asked a x) k
id_same Interface x k = refl
id_same World x k = refl

-- owners with numbers
abbrev numbers : List (ItemPath × ℕ) → List (Owner × ℕ)
numbers es = map (λ e. (path_owner e.0, e.1)) es

abbrev with_id : Owner × ℕ → Owner × AstItem
with_id e = (e.0, id_at e.0.place e.1)

with_ids : (es : List (ItemPath × ℕ)) → item_entries es ≡ map with_id (numbers es)
with_ids [] = refl
with_ids (e ∷ es) =
    ap (λ (i : AstItem). (path_owner e.0, i) ∷ item_entries es) (id_same e.0.asked e.0.item.now e.1)
    ∙ ap (λ (is : Items). with_id (path_owner e.0, e.1) ∷ is) (with_ids es)

module _ (p : ItemPath) (table : Items) (es : List (ItemPath × ℕ)) (is : item_entries es ≡ table) where
  numbered_item : (k : ℕ) → Has (numbers es) (path_owner p, k) → Has table (path_owner p, id_asked p.asked k)
  numbered_item k has =
      subst (λ (i : AstItem). Has table (path_owner p, i)) (sym (id_same p.asked p.item.now k))
      (subst (λ (t : Items). Has t (with_id (path_owner p, k))) (sym (with_ids es) ∙ is) (has_map with_id (numbers es) (path_owner p, k) has))

  item_number : (i : AstItem) → Has table (path_owner p, i) → (k : ℕ) × Has (numbers es) (path_owner p, k)
  item_number i has =
      let m = map_has with_id (numbers es) (path_owner p, i) (subst (λ (t : Items). Has t (path_owner p, i)) (sym is ∙ with_ids es) has) in
      (m.0.1, subst (λ (w : Owner). Has (numbers es) (w, m.0.1)) (sym (ap (λ (e : Owner × AstItem). e.0) m.2)) m.1)

  pub item_found : (k : ℕ) → lookup (path_eq p) es ≡ Some k → Has table (path_owner p, id_asked p.asked k)
  item_found k h = numbered_item k (keyed_found path_owner (path_owner p) (path_eq p) (path_eq-Decides p) (numbers es) es k refl h)

  pub item_none : lookup (path_eq p) es ≡ None → (i : AstItem) → Has table (path_owner p, i) → ⊥
  item_none h i has = (let r = item_number i has in keyed_none path_owner (path_owner p) (path_eq p) (path_eq-Decides p) (numbers es) es r.0 refl h r.1)

  pub item_absent : ((i : AstItem) → Has table (path_owner p, i) → ⊥) → lookup (path_eq p) es ≡ None
  item_absent fresh = keyed_absent path_owner (path_owner p) (path_eq p) (path_eq-Decides p) (numbers es) es refl (λ k has. fresh (id_asked p.asked k) (numbered_item k has))
