-- Packages of a graph stand under their names when one came to it.
use Rattle.std.proofs.Common.{◌≡◌, ℕ, List, [], ◌∷◌, ◌++◌, length, inl, inr, sym, subst, ◌∙◌}
use Rattle.wit_types.specs.declared.«package».Package.{Package}
use Rattle.wit_types.specs.declared.«package».PackageName.{PackageName}
use Rattle.wit_arena.proofs.Lists.{get_kept, get_last, get_more}
use Rattle.wit_item_names.proofs.Passed.wit_placed-Members.{has_at, has_get}
use Rattle.wit_item_names.specs.Passed.wit_graph_worlds-Names.{IsSameName}
use Rattle.wit_graph.proofs.Finishing.{insert_fresh}
use Rattle.wit_new_names.specs.Names.{IsReadName, IsKnown, AreKnownByName}
use Rattle.wit_new_names.specs.Graphs.{EmptyGraphsAreKnown, PushedGraphsAreKnown}
use Rattle.wit_new_names.proofs.New.{new_names}

pub empty_known : EmptyGraphsAreKnown
empty_known i q at = absurd cc

known_more : (packages : List Package) (names : List (PackageName × ℕ)) (n : PackageName) (q : Package) → AreKnownByName packages names → IsReadName n → IsSameName n q.name → AreKnownByName (packages ++ q ∷ []) (names ++ (n, length packages) ∷ [])
known_more packages names n q known is_read is i a at = elim (get_more packages q a i at) as (λ _. IsKnown (names ++ (n, length packages) ∷ []) i a) [
  | inl was ↦ let k = known i a was in record { name = k.name; there = (let p = has_at names (k.name, i) k.there in has_get (names ++ (n, length packages) ∷ []) p.0 (k.name, i) (get_kept names ((n, length packages) ∷ []) p.0 (k.name, i) p.1)); is_same = k.is_same; is_read = k.is_read }
  | inr here ↦
      subst (λ (b : Package). IsKnown (names ++ (n, length packages) ∷ []) i b) (sym here.1)
      (subst (λ (j : ℕ). IsKnown (names ++ (n, length packages) ∷ []) j q) (sym here.0) (record { name = n; there = has_get (names ++ (n, length packages) ∷ []) (length names) (n, length packages) (get_last names (n, length packages)); is_same = is; is_read = is_read }))
]

pub pushed_known : PushedGraphsAreKnown
pushed_known eq features old p new id sees known is_read h =
    let put = h.put in
    let is : IsSameName p.name put.added.q.name = subst (IsSameName p.name) (sym put.added.is_package.name_is) put.is_same in
    let names : new.names ≡ old.names ++ (p.name, length old.tables.packages) ∷ [] = subst (λ (i : ℕ). new.names ≡ old.names ++ (p.name, i) ∷ []) put.id_is (put.names_are ∙ insert_fresh eq old.names p.name id h.fresh) in (
      new_names eq old.tables.packages old.names p.name put.added.q sees known is_read h.fresh is,
      subst (λ (ps : List Package). AreKnownByName ps new.names) (sym put.added.packages_are)
          (subst (AreKnownByName (old.tables.packages ++ put.added.q ∷ [])) (sym names) (known_more old.tables.packages old.names p.name put.added.q known is_read is)),
    )
