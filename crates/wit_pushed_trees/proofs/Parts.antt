-- Parts of a function: those of its parameters, and its result behind them.
use Rattle.std.proofs.Common.{◌≡◌, List, [], ◌∷◌, ◌++◌, Option, Some, None, refl, sym, ap, ◌∙◌}
use Rattle.std.proofs.lemmas.Option.{same_Some}
use Rattle.std.specs.Prelude.{option_map}
use Rattle.wit_types.specs.declared.kind.«Type».{«Type» as Ref}
use Rattle.wit_arena.specs.Tree.{Tree, TreeOption, Trees, no_trees, trees_and}
use Rattle.wit_arena.specs.Unfold.{and_then, part_tree, part_trees}
use Rattle.wit_pushed_trees.specs.Said.{with_result}

-- a row of parts, and one behind it
pub record AreSplit (done : List (Option Tree)) (rs : List (Option Ref)) (r : Option Ref) (ts : Trees) : Type 0 where
  pub front : Trees
  pub last : TreeOption
  pub front_is : part_trees done rs ≡ Some front
  pub last_is : part_tree done r ≡ Some last
  pub are : ts ≡ with_result front last

-- one in front, where both have trees
and_front : (o : Option TreeOption) (p : Option Trees) (ts : Trees) → and_then (λ u. option_map (trees_and u) p) o ≡ Some ts → (u : TreeOption) × (us : Trees) × (o ≡ Some u) × (p ≡ Some us) × (trees_and u us ≡ ts)
and_front None p ts h = absurd cc
and_front (Some u) None ts h = absurd cc
and_front (Some u) (Some us) ts h = (u, us, refl, refl, same_Some (trees_and u us) ts h)

front_and : (o : Option TreeOption) (p : Option Trees) (u : TreeOption) (us : Trees) → o ≡ Some u → p ≡ Some us → and_then (λ v. option_map (trees_and v) p) o ≡ Some (trees_and u us)
front_and o p u us at_o at_p = rw (at_o, at_p) refl

module _ (done : List (Option Tree)) where
  pub parts_joined : (rs : List (Option Ref)) (r : Option Ref) (ts : Trees) (t : TreeOption) → part_trees done rs ≡ Some ts → part_tree done r ≡ Some t → part_trees done (rs ++ r ∷ []) ≡ Some (with_result ts t)
  parts_joined [] r ts t front last =
      front_and (part_tree done r) (Some no_trees) t no_trees last refl ∙ ap (λ (us : Trees). Some (with_result us t)) (same_Some no_trees ts front)
  parts_joined (q ∷ rs) r ts t front last =
      let f = and_front (part_tree done q) (part_trees done rs) ts front in
      front_and (part_tree done q) (part_trees done (rs ++ r ∷ [])) f.0 (with_result f.1 t) f.2 (parts_joined rs r f.1 t f.3 last) ∙ ap (λ (us : Trees). Some (with_result us t)) f.4

  pub parts_split : (rs : List (Option Ref)) (r : Option Ref) (ts : Trees) → part_trees done (rs ++ r ∷ []) ≡ Some ts → AreSplit done rs r ts
  parts_split [] r ts h =
      let f = and_front (part_tree done r) (Some no_trees) ts h in
      record { front = no_trees; last = f.0; front_is = refl; last_is = f.2; are = sym f.4 ∙ ap (trees_and f.0) (sym (same_Some no_trees f.1 f.3)) }
  parts_split (q ∷ rs) r ts h =
      let f = and_front (part_tree done q) (part_trees done (rs ++ r ∷ [])) ts h in
      let s : AreSplit done rs r f.1 = parts_split rs r f.1 f.3 in
      record { front = trees_and f.0 s.front; last = s.last; front_is = front_and (part_tree done q) (part_trees done rs) f.0 s.front f.2 s.front_is; last_is = s.last_is; are = sym f.4 ∙ ap (trees_and f.0) s.are }
