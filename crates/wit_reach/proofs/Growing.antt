-- What is there says the same where more comes behind it.
use Rattle.std.proofs.Common.{◌≡◌, ℕ, zero, suc, ◌<◌, List, [], ◌∷◌, ◌++◌, Option, Some, None, refl, sym, subst, ap, ◌∙◌, arith, length}
use Rattle.std.proofs.lemmas.Option.{slice_get_within}
use Rattle.std.specs.Prelude.{slice_get}
use Rattle.wit_types.specs.declared.interface.TypeDef.{TypeDef}
use Rattle.wit_types.specs.Passed.wit_order-Order.{Has}
use Rattle.wit_types.specs.Passed.wit_order-Places.{Rows, row, Needs}
use Rattle.wit_types.proofs.Passed.wit_order-Lists.{row_past}
use Rattle.wit_reach.specs.Deps.{alias_target, owned, at_target, def_dep, AreUsed}
use Rattle.wit_reach.specs.Paths.{AreBackward, IsPath, Reaches}
use Rattle.wit_reach.specs.Types.{AreTypesBackward, AreTypesThere}
use Rattle.wit_reach.proofs.Used.{target_has}

pub get_same : {X : Type 0} (xs more : List X) (i : ℕ) → i < length xs → slice_get (xs ++ more) i ≡ slice_get xs i
get_same [] more i l = absurd (omega arith)
get_same (x ∷ xs) more zero l = refl
get_same (x ∷ xs) more (suc i) l = get_same xs more i (omega arith)

-- ---- of which interfaces types are used

module _ (ds more : List TypeDef) (back : AreTypesBackward ds) where
  pub dep_same : (i : ℕ) (x : TypeDef) → slice_get ds i ≡ Some x → def_dep (ds ++ more) x ≡ def_dep ds x
  dep_same i x at = by_target (alias_target x.kind) refl
    where
      by_target : (o : Option ℕ) → alias_target x.kind ≡ o → owned (at_target (ds ++ more) o) x.owner ≡ owned (at_target ds o) x.owner
      by_target None e = refl
      by_target (Some u) e =
          let l : u < i = back i u (x, at, target_has x.kind u e) in
          let m : i < length ds = slice_get_within ds i x at in
          ap (λ (o : Option TypeDef). owned o x.owner) (get_same ds more u (omega arith))

  pub used_more : (ids : List ℕ) (j : ℕ) → AreUsed ds ids j → AreUsed (ds ++ more) ids j
  used_more ids j (i, has, (x, at, dep)) = (i, has, (x, get_same ds more i (slice_get_within ds i x at) ∙ at, dep_same i x at ∙ dep))

  pub used_was : (ids : List ℕ) (j : ℕ) → AreTypesThere ds ids → AreUsed (ds ++ more) ids j → AreUsed ds ids j
  used_was ids j there (i, has, (x, at, dep)) =
      let was : slice_get ds i ≡ Some x = sym (get_same ds more i (there i has)) ∙ at in
      (i, has, (x, was, sym (dep_same i x was) ∙ dep))

-- ---- which interfaces use others

module _ (rows more : Rows) where
  pub row_kept : (i : ℕ) → i < length rows → row (rows ++ more) i ≡ row rows i
  row_kept i l = kept rows i l
    where
      kept : (rs : Rows) (i : ℕ) → i < length rs → row (rs ++ more) i ≡ row rs i
      kept [] i l = absurd (omega arith)
      kept (r ∷ rs) zero l = refl
      kept (r ∷ rs) (suc i) l = kept rs i (omega arith)

  pub needs_more : (i j : ℕ) → Needs rows i j → Needs (rows ++ more) i j
  needs_more i j h = subst (λ (l : List ℕ). Has l j) (sym (row_kept i (row_past rows i j h))) h

  pub needs_was : (i j : ℕ) → i < length rows → Needs (rows ++ more) i j → Needs rows i j
  needs_was i j l h = subst (λ (r : List ℕ). Has r j) (row_kept i l) h

  pub path_more : (a : ℕ) (via : List ℕ) (b : ℕ) → IsPath (Needs rows) a via b → IsPath (Needs (rows ++ more)) a via b
  path_more a [] b e = e
  path_more a (k ∷ via) b p = (needs_more a k p.0, path_more k via b p.1)

  -- one from where nothing is new is none that is new
  pub path_was : (a : ℕ) (via : List ℕ) (b : ℕ) → AreBackward (Needs rows) → a < length rows → IsPath (Needs (rows ++ more)) a via b → IsPath (Needs rows) a via b
  path_was a [] b backward l e = e
  path_was a (k ∷ via) b backward l p =
      let used : Needs rows a k = needs_was a k l p.0 in
      let less : k < a = backward a k used in
      (used, path_was k via b backward (omega (arith, less, l)) p.1)

  pub reaches_more : (a b : ℕ) → Reaches (Needs rows) a b → Reaches (Needs (rows ++ more)) a b
  reaches_more a b r = (r.0, path_more a r.0 b r.1)

  pub reaches_was : (a b : ℕ) → AreBackward (Needs rows) → a < length rows → Reaches (Needs (rows ++ more)) a b → Reaches (Needs rows) a b
  reaches_was a b backward l r = (r.0, path_was a r.0 b backward l r.1)
