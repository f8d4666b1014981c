-- An arena in which each id has a tree is backward.
use Rattle.std.proofs.Common.{◌≡◌, ℕ, ◌<◌, ◌+◌, List, [], ◌∷◌, ◌++◌, Option, Some, refl, sym, subst, ap, ◌∙◌, arith, length, length-append, append_assoc}
use Rattle.std.proofs.lemmas.List.{append-nil}
use Rattle.std.proofs.lemmas.Option.{slice_get_within}
use Rattle.std.specs.Prelude.{slice_get}
use Rattle.wit_arena.specs.Passed.wit_types-declared-interface-TypeDef.{TypeDef}
use Rattle.wit_arena.specs.Tree.{Name, Owner, Tree}
use Rattle.wit_arena.specs.Unfold.{Owners, flat, def_tree, trees_from, trees}
use Rattle.wit_arena.proofs.Lists.{get_kept, get_last, get_split}
use Rattle.wit_arena.proofs.Unfolding.{flat_some}
use Rattle.wit_copied_trees.proofs.Owners.{def_within}
use Rattle.wit_copied_trees.specs.Law.{WholeArenasAreBackward}

module _ (owners : Owners) (given : Owner → Name → Tree) where
  -- ---- what stands at a place has the tree that it has over those before it

  trees_append : (done : List (Option Tree)) (xs ys : List TypeDef) → trees_from owners given done (xs ++ ys) ≡ trees_from owners given (trees_from owners given done xs) ys
  trees_append done [] ys = refl
  trees_append done (x ∷ xs) ys = trees_append (done ++ def_tree owners given done x ∷ []) xs ys

  pub trees_length : (done : List (Option Tree)) (xs : List TypeDef) → length (trees_from owners given done xs) ≡ length done + length xs
  trees_length done [] = omega arith
  trees_length done (x ∷ xs) =
      let e = trees_length (done ++ def_tree owners given done x ∷ []) xs in
      let l = length-append done (def_tree owners given done x ∷ []) in
      omega (arith, e, l)

  trees_grow : (done : List (Option Tree)) (ys : List TypeDef) → (more : List (Option Tree)) × (trees_from owners given done ys ≡ done ++ more)
  trees_grow done [] = ([], sym (append-nil done))
  trees_grow done (y ∷ ys) =
      let r = trees_grow (done ++ def_tree owners given done y ∷ []) ys in
      (def_tree owners given done y ∷ r.0, r.1 ∙ append_assoc done (def_tree owners given done y ∷ []) r.0)

  tree_here : (xs ys : List TypeDef) (d : TypeDef) → slice_get (trees owners given (xs ++ d ∷ ys)) (length xs) ≡ Some (def_tree owners given (trees owners given xs) d)
  tree_here xs ys d =
      let done = trees owners given xs in
      let last = done ++ def_tree owners given done d ∷ [] in
      let n : length done ≡ length xs = trees_length [] xs ∙ (let z : 0 + length xs ≡ length xs = omega arith in z) in
      let more = trees_grow last ys in
      subst (λ (ts : List (Option Tree)). slice_get ts (length xs) ≡ Some (def_tree owners given done d)) (sym (trees_append [] xs (d ∷ ys) ∙ more.1))
      (get_kept last more.0 (length xs) (def_tree owners given done d)
      (subst (λ (i : ℕ). slice_get last i ≡ Some (def_tree owners given done d)) n (get_last done (def_tree owners given done d))))

pub whole_backward : WholeArenasAreBackward
whole_backward owners given a whole i j made =
    let d = made.0 in
    let p = get_split a i d made.1 in
    let w = whole i (slice_get_within a i d made.1) in
    let here : slice_get (trees owners given a) i ≡ Some (def_tree owners given (trees owners given p.0) d) =
    subst (λ (b : List TypeDef). slice_get (trees owners given b) i ≡ Some (def_tree owners given (trees owners given p.0) d)) (sym p.2)
    (subst (λ (n : ℕ). slice_get (trees owners given (p.0 ++ d ∷ p.1)) n ≡ Some (def_tree owners given (trees owners given p.0) d)) p.3 (tree_here owners given p.0 p.1 d)) in
    let is : def_tree owners given (trees owners given p.0) d ≡ Some w.0 = sym (ap flat here) ∙ w.1 in
    let n : length (trees owners given p.0) ≡ i = trees_length owners given [] p.0 ∙ (let z : 0 + length p.0 ≡ length p.0 = omega arith in z) ∙ p.3 in
    let part = def_within owners given (trees owners given p.0) d.name d.owner d.kind w.0 is j made.2 in
    subst (λ (m : ℕ). j < m) n (slice_get_within (trees owners given p.0) j (Some part.0) (flat_some (slice_get (trees owners given p.0) j) part.0 part.1))
