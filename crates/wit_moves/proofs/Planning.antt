-- Where types stand, one type more at a time.
use Rattle.std.proofs.Common.{◌≡◌, ℕ, ◌+◌, ◌<◌, ◌≤◌, Bool, true, false, List, [], ◌∷◌, ◌++◌, Some, refl, sym, subst, ap, ◌∙◌, arith, length, take, get_or, add-one, take-suc, below_more}
use Rattle.std.proofs.lemmas.List.{length-take-le}
use Rattle.std.proofs.lemmas.Option.{same_Some, slice_get-get_or}
use Rattle.std.specs.Prelude.{slice_get}
use Rattle.wit_features.specs.Passed.wit_types-declared-interface-TypeDef.{TypeDef}
use Rattle.wit_features.specs.Features.{FeatureSet}
use Rattle.wit_moves.specs.Moved.{Places, is_placed, is_kind_placed}
use Rattle.wit_moves.specs.Plan.{OwnerPlaces, Plan, type_stays, with_place, with_type, with_types, BreaksAt, AreMovedDefs, left_out, AddsDef, adds_nothing, adds_it}

pub next_within : (b : Bool) (p q : Plan) → q ≡ with_place b p → q.next ≤ p.next + 1
next_within true p q e = (let n : q.next ≡ p.next + 1 = ap (λ (r : Plan). r.next) e in omega arith)
next_within false p q e = (let n : q.next ≡ p.next = ap (λ (r : Plan). r.next) e in omega arith)

module _ (features : FeatureSet) (owners : OwnerPlaces) where
  with_last : (p : Plan) (ds : List TypeDef) (d : TypeDef) → with_types features owners p (ds ++ d ∷ []) ≡ with_type features owners (with_types features owners p ds) d
  with_last p [] d = refl
  with_last p (e ∷ ds) d = with_last (with_type features owners p e) ds d

  module _ (p : Plan) (ds : List TypeDef) (k : ℕ) (d : TypeDef) (within : k < length ds) (is : d ≡ get_or ds k d) where
    taken : take (k + 1) ds ≡ take k ds ++ d ∷ []
    taken = ap (λ (n : ℕ). take n ds) (add-one k) ∙ take-suc ds k d within ∙ ap (λ (x : TypeDef). take k ds ++ x ∷ []) (sym is)

    -- the plan with the type that code is at
    pub next_plan : (q r : Plan) (b : Bool) → q ≡ with_types features owners p (take k ds) → b ≡ type_stays features owners q.places d → r ≡ with_place b q → r ≡ with_types features owners p (take (k + 1) ds)
    next_plan q r b so_far stays placed =
        placed ∙ ap (λ (c : Bool). with_place c q) stays ∙ ap (λ (z : Plan). with_type features owners z d) so_far
        ∙ sym (ap (λ (xs : List TypeDef). with_types features owners p xs) taken ∙ with_last p (take k ds) d)

    there : slice_get ds k ≡ Some d
    there = slice_get-get_or ds k d within ∙ ap (λ (x : TypeDef). Some x) (sym is)

    -- it breaks nothing where it doesn't stay, or all that it is made of does
    pub next_kept : (q : Plan) → q ≡ with_types features owners p (take k ds) → (type_stays features owners q.places d ≡ true → is_kind_placed q.places d.kind ≡ false → ⊥)
        → ((j : ℕ) (x : TypeDef) → j < k → BreaksAt features owners p ds j x → ⊥) → (j : ℕ) (x : TypeDef) → j < k + 1 → BreaksAt features owners p ds j x → ⊥
    next_kept q so_far here kept j x less b =
        below_more (λ (n : ℕ). (z : TypeDef) → BreaksAt features owners p ds n z → ⊥) k (λ n l z e. kept n z l e)
        (λ z e. (
        let same : z ≡ d = same_Some z d (sym e.there ∙ there) in
        here (subst (λ (w : TypeDef). type_stays features owners q.places w ≡ true) same (subst (λ (r : Plan). type_stays features owners r.places z ≡ true) (sym so_far) e.stays))
        (subst (λ (w : TypeDef). is_kind_placed q.places w.kind ≡ false) same (subst (λ (r : Plan). is_kind_placed r.places z.kind ≡ false) (sym so_far) e.unplaced)))) j less x b

-- ---- moved types, one more at a time

module _ (owners : OwnerPlaces) (places : Places) (first : ℕ) where
  adds : (ds es new : List TypeDef) (d : TypeDef) (i : ℕ) → i ≡ first + length ds → AreMovedDefs owners places first ds es → AddsDef owners places i d es new → AreMovedDefs owners places first (ds ++ d ∷ []) new
  adds ds es new d i at so_far (adds_nothing out) = left_out ds es d so_far (subst (λ (n : ℕ). is_placed places n ≡ false) at out)
  adds ds es new d i at so_far (adds_it e stands is) = AreMovedDefs.moved ds es d e so_far (subst (λ (n : ℕ). is_placed places n ≡ true) at stands) is

  pub next_moved : (ds : List TypeDef) (k : ℕ) (d : TypeDef) (es new : List TypeDef) (i : ℕ) → k < length ds → d ≡ get_or ds k d → i ≡ first + k → AreMovedDefs owners places first (take k ds) es → AddsDef owners places i d es new
      → AreMovedDefs owners places first (take (k + 1) ds) new
  next_moved ds k d es new i within is at so_far added =
      let size : length (take k ds) ≡ k = length-take-le k ds (omega (arith, within)) in
      subst (λ (xs : List TypeDef). AreMovedDefs owners places first xs new) (sym (ap (λ (n : ℕ). take n ds) (add-one k) ∙ take-suc ds k d within ∙ ap (λ (x : TypeDef). take k ds ++ x ∷ []) (sym is)))
      (adds (take k ds) es new d i (at ∙ ap (λ (n : ℕ). first + n) (sym size)) so_far added)
