-- What is asked for, as it is gone through.
use Rattle.std.proofs.Common.{◌≡◌, ℕ, ◌+◌, ◌<◌, ◌≤◌, zero, suc, List, [], ◌∷◌, ◌++◌, inl, inr, length, Some, take, get_or, refl, sym, subst, ap, ◌∙◌, arith}
use Rattle.std.proofs.lemmas.Option.{slice_get_within, slice_get-map, slice_get-get_or}
use Rattle.std.proofs.lemmas.List.{map_more}
use Rattle.std.specs.Prelude.{slice_get, option_map}
use Rattle.wit_types.specs.declared.«package».AstItem.{AstItem}
use Rattle.wit_types.specs.declared.«package».AstItem.TheVariants as ids
use Rattle.wit_package_types.specs.Passed.wit_arena-Tree.{Owner}
use Rattle.wit_package_types.specs.Passed.wit_arena-Meaning.{Has}
use Rattle.wit_package_types.proofs.Passed.wit_arena-Lists.{get_kept, get_last, get_more, has_left, has_none}
use Rattle.wit_foreign.specs.declared.needs.Need.{Need}
use Rattle.wit_foreign.specs.View as seen
use Rattle.wit_foreign.specs.Needs.{NeedTree}
use Rattle.wit_foreign.specs.Items.{Items, need_owner, interface_count, world_count, interfaces_in, worlds_in, IsNext, TakesNeed, is_there, goes_last, AreItemsOf}

-- ---- counts

pub interfaces_more : (es : Items) (e : Owner × AstItem) → interfaces_in (es ++ e ∷ []) ≡ interfaces_in es + interface_count e.1
interfaces_more [] e = omega arith
interfaces_more (d ∷ es) e = (let h = interfaces_more es e in omega (arith, h))

pub worlds_more : (es : Items) (e : Owner × AstItem) → worlds_in (es ++ e ∷ []) ≡ worlds_in es + world_count e.1
worlds_more [] e = omega arith
worlds_more (d ∷ es) e = (let h = worlds_more es e in omega (arith, h))

one_interface : (i : AstItem) → interface_count i ≤ 1
one_interface (ids.Interface k) = omega arith
one_interface (ids.World k) = omega arith

one_world : (i : AstItem) → world_count i ≤ 1
one_world (ids.Interface k) = omega arith
one_world (ids.World k) = omega arith

pub few_interfaces : (es : Items) → interfaces_in es ≤ length es
few_interfaces [] = omega arith
few_interfaces (e ∷ es) = (let h = few_interfaces es in let k = one_interface e.1 in omega (arith, h, k))

pub few_worlds : (es : Items) → worlds_in es ≤ length es
few_worlds [] = omega arith
few_worlds (e ∷ es) = (let h = few_worlds es in let k = one_world e.1 in omega (arith, h, k))

-- ---- lists

pub length_more : {X : Type 0} (xs : List X) (x : X) → length (xs ++ x ∷ []) ≡ length xs + 1
length_more [] x = omega arith
length_more (y ∷ xs) x = (let h = length_more xs x in omega (arith, h))

-- the front of a list that grows stays
pub take_kept : {X : Type 0} (xs ys : List X) (k : ℕ) → k ≤ length xs → take k (xs ++ ys) ≡ take k xs
take_kept [] ys zero h = refl
take_kept [] ys (suc k) h = absurd (omega arith)
take_kept (x ∷ xs) ys zero h = refl
take_kept {X} (x ∷ xs) ys (suc k) h = ap (λ (zs : List X). x ∷ zs) (take_kept xs ys k (omega arith))

pub take_whole : {X : Type 0} (xs : List X) → take (length xs) xs ≡ xs
take_whole [] = refl
take_whole {X} (x ∷ xs) = ap (λ (zs : List X). x ∷ zs) (take_whole xs)

pub has_last : {X : Type 0} (xs : List X) (x : X) → Has (xs ++ x ∷ []) x
has_last xs x = (length xs, get_last xs x)

-- ---- each need in turn

pub no_items : AreItemsOf [] []
no_items = record {
  there = λ n h. absurd (has_none n h);
  needed = λ w i h. absurd (has_none (w, i) h);
  once = λ j k w h i at. absurd (has_none (w, h) (j, at));
  ordered = λ j k v w h i q n less at. absurd (has_none (v, h) (j, at));
  numbered = λ k w i at. absurd (has_none (w, i) (k, at));
}

-- with those so far, of one need more
module _ (needs : List NeedTree) (old : Items) (so_far : AreItemsOf needs old) (n : NeedTree) where
  -- a need of each entry stands among the earlier ones
  needed_before : (w : Owner) (i : AstItem) → Has old (w, i) → (p : ℕ) × (m : NeedTree) × (p < length needs) × (slice_get (needs ++ n ∷ []) p ≡ Some m) × (need_owner m ≡ w)
  needed_before w i h =
      let r = so_far.needed w i h in
      (r.1.0, r.0, slice_get_within needs r.1.0 r.0 r.1.1, get_kept needs (n ∷ []) r.1.0 r.0 r.1.1, r.2)

  needed_still : (w : Owner) (i : AstItem) → Has old (w, i) → (m : NeedTree) × Has (needs ++ n ∷ []) m × (need_owner m ≡ w)
  needed_still w i h = (let r = so_far.needed w i h in (r.0, has_left needs (n ∷ []) r.0 r.1, r.2))

  abbrev Earlier : ℕ → Owner → Type 0
  Earlier q v = (p : ℕ) × (m : NeedTree) × (p < q) × (slice_get (needs ++ n ∷ []) p ≡ Some m) × (need_owner m ≡ v)

  earlier_kept : (q : ℕ) (v : Owner) → ((p : ℕ) × (m : NeedTree) × (p < q) × (slice_get needs p ≡ Some m) × (need_owner m ≡ v)) → Earlier q v
  earlier_kept q v r = (r.0, r.1, r.2, get_kept needs (n ∷ []) r.0 r.1 r.3, r.4)

  -- of two entries that were there
  ordered_still : (j k : ℕ) (v w : Owner) (h i : AstItem) (q : ℕ) (m : NeedTree) → j < k → slice_get old j ≡ Some (v, h) → slice_get old k ≡ Some (w, i) → slice_get (needs ++ n ∷ []) q ≡ Some m → need_owner m ≡ w → Earlier q v
  ordered_still j k v w h i q m less at_j at_k at_q is =
      elim (get_more needs n m q at_q) as (λ _. Earlier q v) [
        | inl was ↦ earlier_kept q v (so_far.ordered j k v w h i q m less at_j at_k was is)
        | inr last ↦ subst (λ (z : ℕ). Earlier z v) (sym last.0) (needed_before v h (j, at_j))
      ]

  kept : (i : AstItem) → Has old (need_owner n, i) → AreItemsOf (needs ++ n ∷ []) old
  kept i has = record {
    there = λ m h. elim (get_more needs n m h.0 h.1) as (λ _. (x : AstItem) × Has old (need_owner m, x)) [
      | inl was ↦ so_far.there m (h.0, was)
      | inr last ↦ (i, subst (λ (z : NeedTree). Has old (need_owner z, i)) (sym last.1) has)
    ];
    needed = needed_still;
    once = so_far.once;
    ordered = ordered_still;
    numbered = so_far.numbered;
  }

  module _ (i : AstItem) (absent : (j : AstItem) → Has old (need_owner n, j) → ⊥) (next : IsNext old (need_owner n).place i) where
    abbrev new : Items
    new = old ++ (need_owner n, i) ∷ []

    owner_last : (w : Owner) (x : AstItem) → ◌≡◌ {A = Owner × AstItem} (w, x) (need_owner n, i) → w ≡ need_owner n
    owner_last w x e = ap (λ (z : Owner × AstItem). z.0) e

    there_more : (m : NeedTree) → Has (needs ++ n ∷ []) m → (x : AstItem) × Has new (need_owner m, x)
    there_more m h =
        elim (get_more needs n m h.0 h.1) as (λ _. (x : AstItem) × Has new (need_owner m, x)) [
          | inl was ↦ (let r = so_far.there m (h.0, was) in (r.0, has_left old ((need_owner n, i) ∷ []) (need_owner m, r.0) r.1))
          | inr last ↦ (i, subst (λ (z : NeedTree). Has new (need_owner z, i)) (sym last.1) (has_last old (need_owner n, i)))
        ]

    needed_more : (w : Owner) (x : AstItem) → Has new (w, x) → (m : NeedTree) × Has (needs ++ n ∷ []) m × (need_owner m ≡ w)
    needed_more w x h =
        elim (get_more old (need_owner n, i) (w, x) h.0 h.1) as (λ _. (m : NeedTree) × Has (needs ++ n ∷ []) m × (need_owner m ≡ w)) [
          | inl was ↦ needed_still w x (h.0, was)
          | inr last ↦ (n, has_last needs n, sym (owner_last w x last.1))
        ]

    not_both : (k : ℕ) (w : Owner) (x : AstItem) → slice_get old k ≡ Some (w, x) → w ≡ need_owner n → ⊥
    not_both k w x at e = absent x (subst (λ (z : Owner). Has old (z, x)) e (k, at))

    once_more : (j k : ℕ) (w : Owner) (h x : AstItem) → slice_get new j ≡ Some (w, h) → slice_get new k ≡ Some (w, x) → j ≡ k
    once_more j k w h x at_j at_k =
        elim (get_more old (need_owner n, i) (w, h) j at_j) as (λ _. j ≡ k) [
          | inl was_j ↦ elim (get_more old (need_owner n, i) (w, x) k at_k) as (λ _. j ≡ k) [
            | inl was_k ↦ so_far.once j k w h x was_j was_k
            | inr last_k ↦ absurd (not_both j w h was_j (owner_last w x last_k.1))
          ]
          | inr last_j ↦ elim (get_more old (need_owner n, i) (w, x) k at_k) as (λ _. j ≡ k) [
            | inl was_k ↦ absurd (not_both k w x was_k (owner_last w h last_j.1))
            | inr last_k ↦ last_j.0 ∙ sym last_k.0
          ]
        ]

    -- a need of the new entry is the last one
    ordered_last : (j : ℕ) (v w : Owner) (h : AstItem) (q : ℕ) (m : NeedTree) → slice_get old j ≡ Some (v, h) → w ≡ need_owner n → slice_get (needs ++ n ∷ []) q ≡ Some m → need_owner m ≡ w → Earlier q v
    ordered_last j v w h q m at_j same at_q is =
        elim (get_more needs n m q at_q) as (λ _. Earlier q v) [
          | inl was ↦ absurd (let r = so_far.there m (q, was) in absent r.0 (subst (λ (z : Owner). Has old (z, r.0)) (is ∙ same) r.1))
          | inr last ↦ subst (λ (z : ℕ). Earlier z v) (sym last.0) (needed_before v h (j, at_j))
        ]

    ordered_more : (j k : ℕ) (v w : Owner) (h x : AstItem) (q : ℕ) (m : NeedTree) → j < k → slice_get new j ≡ Some (v, h) → slice_get new k ≡ Some (w, x) → slice_get (needs ++ n ∷ []) q ≡ Some m → need_owner m ≡ w → Earlier q v
    ordered_more j k v w h x q m less at_j at_k at_q is =
        elim (get_more old (need_owner n, i) (v, h) j at_j) as (λ _. Earlier q v) [
          | inl was_j ↦ elim (get_more old (need_owner n, i) (w, x) k at_k) as (λ _. Earlier q v) [
            | inl was_k ↦ ordered_still j k v w h x q m less was_j was_k at_q is
            | inr last_k ↦ ordered_last j v w h q m was_j (owner_last w x last_k.1) at_q is
          ]
          | inr last_j ↦ elim (get_more old (need_owner n, i) (w, x) k at_k) as (λ _. Earlier q v) [
            | inl was_k ↦ absurd (let l : k < length old = slice_get_within old k (w, x) was_k in let e : j ≡ length old = last_j.0 in omega (arith, less))
            | inr last_k ↦ absurd (let e : j ≡ length old = last_j.0 in let f : k ≡ length old = last_k.0 in omega (arith, less))
          ]
        ]

    numbered_more : (k : ℕ) (w : Owner) (x : AstItem) → slice_get new k ≡ Some (w, x) → IsNext (take k new) w.place x
    numbered_more k w x at =
        elim (get_more old (need_owner n, i) (w, x) k at) as (λ _. IsNext (take k new) w.place x) [
          | inl was ↦
              let l : k < length old = slice_get_within old k (w, x) was in
              subst (λ (es : Items). IsNext es w.place x) (sym (take_kept old ((need_owner n, i) ∷ []) k (omega (arith, l)))) (so_far.numbered k w x was)
          | inr last ↦
              let front : take k new ≡ old = ap (λ (z : ℕ). take z new) last.0 ∙ take_kept old ((need_owner n, i) ∷ []) (length old) (omega arith) ∙ take_whole old in
              subst (λ (es : Items). IsNext es w.place x) (sym front) (subst (λ (e : Owner × AstItem). IsNext old e.0.place e.1) (sym last.1) next)
        ]

    grown : AreItemsOf (needs ++ n ∷ []) new
    grown = record { there = there_more; needed = needed_more; once = once_more; ordered = ordered_more; numbered = numbered_more }

  pub takes : (now : Items) → TakesNeed old n now → AreItemsOf (needs ++ n ∷ []) now
  takes now (is_there i has) = kept i has
  takes now (goes_last i absent next) = grown i absent next

pub taken_within : (old : Items) (n : NeedTree) (new : Items) (k : ℕ) → TakesNeed old n new → length old ≤ k → length new ≤ k + 1
taken_within old n new k (is_there i has) l = omega (arith, l)
taken_within old n new k (goes_last i absent next) l = (let e = length_more old (need_owner n, i) in omega (arith, l, e))

-- ---- a loop over the needs

module _ (ns : List Need) (k : ℕ) (n : Need) (within : k < length ns) (this : n ≡ get_or ns k n) where
  pub next_need : seen.needs (take (k + 1) ns) ≡ seen.needs (take k ns) ++ seen.need n ∷ []
  next_need = map_more seen.need ns k n within ∙ ap (λ (m : Need). seen.needs (take k ns) ++ seen.need m ∷ []) (sym this)

  pub next_at : slice_get (seen.needs ns) k ≡ Some (seen.need n)
  next_at = slice_get-map seen.need ns k ∙ ap (option_map seen.need) (slice_get-get_or ns k n within ∙ ap (λ (m : Need). Some m) (sym this))

  pub takes_next : (old new : Items) → AreItemsOf (seen.needs (take k ns)) old × (length old ≤ k) → TakesNeed old (seen.need n) new → AreItemsOf (seen.needs (take (k + 1) ns)) new × (length new ≤ k + 1)
  takes_next old new so_far h = (
    subst (λ (xs : List NeedTree). AreItemsOf xs new) (sym next_need) (takes (seen.needs (take k ns)) old so_far.0 (seen.need n) new h),
    taken_within old (seen.need n) new k h so_far.1,
  )
