-- Whose interfaces and worlds are, by their ids.
use Rattle.std.proofs.Common.{◌≡◌, ℕ, ◌+◌, zero, suc, List, [], ◌∷◌, ◌++◌, length, length-append, Some, take, refl, sym, subst, ap, ◌∙◌}
use Rattle.std.proofs.lemmas.Option.{same_Some}
use Rattle.std.specs.Prelude.{slice_get, flat_map}
use Rattle.wit_types.specs.declared.«package».AstItem.{AstItem}
use Rattle.wit_types.specs.declared.«package».AstItem.TheVariants as ids
use Rattle.wit_arena.specs.Tree.{Owner}
use Rattle.wit_arena.specs.Meaning.{Has}
use Rattle.wit_arena.proofs.Lists.{has_none, get_kept}
use Rattle.wit_placeholders.specs.Passed.wit_foreign-Needs.{NeedTree}
use Rattle.wit_placeholders.specs.Passed.wit_foreign-Items.{Items, interface_count, world_count, interfaces_in, worlds_in, AreItemsOf}
use Rattle.wit_built_worlds.proofs.Passed.wit_interfaces-Behind.{get_right}
use Rattle.wit_built_worlds.proofs.Passed.wit_readiness-Flat.{has_one, in_flat}
use Rattle.wit_built_worlds.specs.Adding.{AreOwnersIn}
use Rattle.wit_placeholders.proofs.Passed.wit_foreign-Numbers.{interface_number, world_number}
use Rattle.wit_package.specs.Resolved.{interface_asked, world_asked, foreign_owners}

-- ---- how many there are

one_interface : (w : Owner) (i : AstItem) → length (interface_asked (w, i)) ≡ interface_count i
one_interface w (ids.Interface k) = refl
one_interface w (ids.World k) = refl

one_world : (w : Owner) (i : AstItem) → length (world_asked (w, i)) ≡ world_count i
one_world w (ids.Interface k) = refl
one_world w (ids.World k) = refl

pub interface_owners_length : (es : Items) → length (flat_map interface_asked es) ≡ interfaces_in es
interface_owners_length [] = refl
interface_owners_length (e ∷ es) =
    length-append (interface_asked e) (flat_map interface_asked es) ∙ ap (λ (n : ℕ). n + length (flat_map interface_asked es)) (one_interface e.0 e.1) ∙ ap (λ (n : ℕ). interface_count e.1 + n) (interface_owners_length es)

pub world_owners_length : (es : Items) → length (flat_map world_asked es) ≡ worlds_in es
world_owners_length [] = refl
world_owners_length (e ∷ es) =
    length-append (world_asked e) (flat_map world_asked es) ∙ ap (λ (n : ℕ). n + length (flat_map world_asked es)) (one_world e.0 e.1) ∙ ap (λ (n : ℕ). world_count e.1 + n) (world_owners_length es)

-- ---- which is whose

interface_owner_at : (es : Items) (p : ℕ) (w : Owner) (k : ℕ) → slice_get es p ≡ Some (w, ids.Interface k) → slice_get (flat_map interface_asked es) (interfaces_in (take p es)) ≡ Some w
interface_owner_at [] p w k at = absurd cc
interface_owner_at (e ∷ es) zero w k at =
    subst (λ (f : Owner × AstItem). slice_get (interface_asked f ++ flat_map interface_asked es) 0 ≡ Some w) (sym (same_Some e (w, ids.Interface k) at)) refl
interface_owner_at (e ∷ es) (suc p) w k at =
    ap (λ (n : ℕ). slice_get (interface_asked e ++ flat_map interface_asked es) (n + interfaces_in (take p es))) (sym (one_interface e.0 e.1))
    ∙ get_right (interface_asked e) (flat_map interface_asked es) (interfaces_in (take p es)) w (interface_owner_at es p w k at)

world_owner_at : (es : Items) (p : ℕ) (w : Owner) (k : ℕ) → slice_get es p ≡ Some (w, ids.World k) → slice_get (flat_map world_asked es) (worlds_in (take p es)) ≡ Some w
world_owner_at [] p w k at = absurd cc
world_owner_at (e ∷ es) zero w k at =
    subst (λ (f : Owner × AstItem). slice_get (world_asked f ++ flat_map world_asked es) 0 ≡ Some w) (sym (same_Some e (w, ids.World k) at)) refl
world_owner_at (e ∷ es) (suc p) w k at =
    ap (λ (n : ℕ). slice_get (world_asked e ++ flat_map world_asked es) (n + worlds_in (take p es))) (sym (one_world e.0 e.1))
    ∙ get_right (world_asked e) (flat_map world_asked es) (worlds_in (take p es)) w (world_owner_at es p w k at)

module _ (needs : List NeedTree) (items : Items) (are : AreItemsOf needs items) where
  -- the id of an interface of another package leads to it, whatever stands behind those
  pub interface_owned : (own : List Owner) (w : Owner) (k : ℕ) → Has items (w, ids.Interface k) → slice_get ((foreign_owners items).interfaces ++ own) k ≡ Some w
  interface_owned own w k (p, at) =
      get_kept (flat_map interface_asked items) own k w (ap (slice_get (flat_map interface_asked items)) (interface_number needs items are p w k at) ∙ interface_owner_at items p w k at)

  pub world_owned : (own : List Owner) (w : Owner) (k : ℕ) → Has items (w, ids.World k) → slice_get ((foreign_owners items).worlds ++ own) k ≡ Some w
  world_owned own w k (p, at) =
      get_kept (flat_map world_asked items) own k w (ap (slice_get (flat_map world_asked items)) (world_number needs items are p w k at) ∙ world_owner_at items p w k at)

  pub has_interface_owner : (w : Owner) (k : ℕ) → Has items (w, ids.Interface k) → Has (foreign_owners items).interfaces w
  has_interface_owner w k (p, at) = (interfaces_in (take p items), interface_owner_at items p w k at)

  pub has_world_owner : (w : Owner) (k : ℕ) → Has items (w, ids.World k) → Has (foreign_owners items).worlds w
  has_world_owner w k (p, at) = (worlds_in (take p items), world_owner_at items p w k at)

-- ---- they are those that are asked for

interface_of_item : (items : Items) (v w : Owner) (i : AstItem) → Has items (v, i) → Has (interface_asked (v, i)) w → (k : ℕ) × Has items (w, ids.Interface k)
interface_of_item items v w (ids.Interface k) has h = (k, subst (λ (o : Owner). Has items (o, ids.Interface k)) (sym (has_one v w h)) has)
interface_of_item items v w (ids.World k) has h = absurd (has_none w h)

world_of_item : (items : Items) (v w : Owner) (i : AstItem) → Has items (v, i) → Has (world_asked (v, i)) w → (k : ℕ) × Has items (w, ids.World k)
world_of_item items v w (ids.Interface k) has h = absurd (has_none w h)
world_of_item items v w (ids.World k) has h = (k, subst (λ (o : Owner). Has items (o, ids.World k)) (sym (has_one v w h)) has)

pub are_owners : (items : Items) → AreOwnersIn items (foreign_owners items)
are_owners items = record {
  interfaces = λ w has. (let r = in_flat interface_asked items w has in interface_of_item items r.0.0 w r.0.1 r.1 r.2);
  worlds = λ w has. (let r = in_flat world_asked items w has in world_of_item items r.0.0 w r.0.1 r.1 r.2);
}
