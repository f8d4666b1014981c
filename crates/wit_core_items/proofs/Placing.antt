-- Places that are put behind others.
use Rattle.std.proofs.Common.{◌<◌, get_or, ◌≡◌, ℕ, zero, suc, ◌≤◌, ◌+◌, List, [], ◌∷◌, ◌++◌, Option, Some, refl, sym, ap, subst, map, take, length, append_assoc, add-one, arith, ◌∙◌}
use Rattle.std.proofs.lemmas.List.{append-nil, map-append, take_all, length-map}
use Rattle.std.proofs.lemmas.List.Concat.{flat_map-append}
use Rattle.std.proofs.lemmas.Option.{same_Some, slice_get-get_or}
use Rattle.std.specs.Prelude.{flat_map, slice_get}
use Rattle.wit_core_items.specs.Places.{AreAt, Adds, counted}

-- ---- one element more

pub there_below : {E : Type 0} (es : List E) (i : ℕ) → suc i ≤ length es → (e : E) × (slice_get es i ≡ Some e)
there_below [] i within = absurd (omega arith)
there_below (d ∷ es) zero within = (d, refl)
there_below (d ∷ es) (suc i) within = there_below es i (omega arith)

pub take_next : {E : Type 0} (es : List E) (i : ℕ) (e : E) → slice_get es i ≡ Some e → take (suc i) es ≡ take i es ++ e ∷ []
take_next [] i e there = absurd cc
take_next (d ∷ es) zero e there = ap (λ x. x ∷ []) (same_Some d e there)
take_next (d ∷ es) (suc i) e there = ap (λ (l : _). d ∷ l) (take_next es i e there)

pub flat_map_next : {E X : Type 0} (g : E → List X) (es : List E) (i : ℕ) (e : E) → slice_get es i ≡ Some e → flat_map g (take (suc i) es) ≡ flat_map g (take i es) ++ g e
flat_map_next g es i e there =
    ap (λ l. flat_map g l) (take_next es i e there) ∙ flat_map-append g (take i es) (e ∷ []) ∙ ap (λ l. flat_map g (take i es) ++ l) (append-nil (g e))

module _ {P X : Type 0} (at : P → Option X) where
  pub adds_none : (old : List P) → Adds at old old []
  adds_none old = sym (append-nil (map at old))

  pub adds_put : (old new ps : List P) (xs : List X) → new ≡ old ++ ps → AreAt at ps xs → Adds at old new xs
  adds_put old new ps xs put are = ap (λ l. map at l) put ∙ map-append at old ps ∙ ap (λ l. map at old ++ l) are

  pub adds_then : (a b c : List P) (xs ys : List X) → Adds at a b xs → Adds at b c ys → Adds at a c (xs ++ ys)
  adds_then a b c xs ys one two =
      two ∙ ap (λ l. l ++ map (λ x. Some x) ys) one ∙ append_assoc (map at a) (map (λ x. Some x) xs) (map (λ x. Some x) ys)
      ∙ ap (λ l. map at a ++ l) (sym (map-append (λ x. Some x) xs ys))

  -- what was put in for one more of a list
  pub adds_next : {E : Type 0} (g : E → List X) (es : List E) (i : ℕ) (e : E) (a b c : List P) → slice_get es i ≡ Some e → Adds at a b (flat_map g (take i es)) → Adds at b c (g e) → Adds at a c (flat_map g (take (i + 1) es))
  adds_next g es i e a b c there one two =
      subst (λ (n : ℕ). Adds at a c (flat_map g (take n es))) (sym (add-one i)) (subst (Adds at a c) (sym (flat_map_next g es i e there)) (adds_then a b c (flat_map g (take i es)) (g e) one two))

  pub are_append : (ps qs : List P) (xs ys : List X) → AreAt at ps xs → AreAt at qs ys → AreAt at (ps ++ qs) (xs ++ ys)
  are_append ps qs xs ys one two =
      map-append at ps qs ∙ ap (λ l. l ++ map at qs) one ∙ ap (λ l. map (λ x. Some x) xs ++ l) two ∙ sym (map-append (λ x. Some x) xs ys)

  -- what is put in for each of a list
  pub are_each : {E : Type 0} (f : E → List P) (g : E → List X) (es : List E) → ((e : E) → AreAt at (f e) (g e)) → AreAt at (flat_map f es) (flat_map g es)
  are_each f g [] each = refl
  are_each f g (e ∷ es) each = are_append (f e) (flat_map f es) (g e) (flat_map g es) (each e) (are_each f g es each)

  -- and by the places of its elements
  module _ {E : Type 0} (f : ℕ → List P) (g : E → List X) (es : List E) (each : (j : ℕ) (e : E) → slice_get es j ≡ Some e → AreAt at (f j) (g e)) where
    are_so_far : (n : ℕ) → n ≤ length es → AreAt at (counted f n) (flat_map g (take n es))
    are_so_far zero within = refl
    are_so_far (suc n) within =
        let (e, there) = there_below es n within in
        subst (AreAt at (counted f n ++ f n)) (sym (flat_map_next g es n e there)) (are_append (counted f n) (f n) (flat_map g (take n es)) (g e) (are_so_far n (omega arith)) (each n e there))

    pub are_counted : AreAt at (counted f (length es)) (flat_map g es)
    are_counted = subst (λ l. AreAt at (counted f (length es)) (flat_map g l)) (take_all (length es) es (omega arith)) (are_so_far (length es) (omega arith))

-- what stands at a place of the list
pub are_there : {P X : Type 0} (at : P → Option X) (ps : List P) (xs : List X) → AreAt at ps xs → (i : ℕ) (p : P) → slice_get ps i ≡ Some p → (x : X) × (at p ≡ Some x) × (slice_get xs i ≡ Some x)
are_there at [] xs are i p there = absurd cc
are_there at (r ∷ ps) [] are i p there = absurd cc
are_there at (r ∷ ps) (x ∷ xs) are zero p there = let same : r ≡ p = same_Some r p there in (x, ap at (sym same) ∙ (let e : at r ≡ Some x = cc in e), refl)
are_there at (r ∷ ps) (x ∷ xs) are (suc i) p there = are_there at ps xs (let e : map at ps ≡ map (λ x. Some x) xs = cc in e) i p there

pub as_many : {P X : Type 0} (at : P → Option X) (ps : List P) (xs : List X) → AreAt at ps xs → length ps ≡ length xs
as_many at ps xs are = sym (length-map ps at) ∙ ap (λ l. length l) are ∙ length-map xs (λ x. Some x)

pub are_read : {P X : Type 0} (at : P → Option X) (ps : List P) (xs : List X) → AreAt at ps xs → (i : ℕ) (p : P) → i < length xs → p ≡ get_or ps i p → (x : X) × (at p ≡ Some x) × (slice_get xs i ≡ Some x)
are_read at ps xs are i p within is =
    let size = as_many at ps xs are in
    let less : i < length ps = omega (arith, within, size) in
    are_there at ps xs are i p (slice_get-get_or ps i p less ∙ ap (λ q. Some q) (sym is))
