-- Needs that are parted one by one are in parts.
use Rattle.std.proofs.Common.{◌≡◌, ℕ, ◌+◌, ◌<◌, zero, suc, List, [], ◌∷◌, ◌++◌, ◌⊎◌, inl, inr, length, length-set, Some, set, refl, sym, subst, ap, ◌∙◌, arith}
use Rattle.std.proofs.lemmas.Option.{same_Some, slice_get_within}
use Rattle.std.specs.Prelude.{slice_get}
use Rattle.wit_package_types.specs.Passed.wit_arena-Meaning.{Has}
use Rattle.wit_package_types.proofs.Passed.wit_arena-Lists.{get_kept, get_more, has_left, has_none}
use Rattle.wit_foreign.specs.Needs.{NeedTree}
use Rattle.wit_foreign.specs.Groups.{AddsNeed, joins, begins, AreGroups, no_groups, one_need_more, IsPart, no_part, of_key, of_another, AreParts}
use Rattle.wit_foreign.proofs.Gathering.{length_more, has_last}
use Rattle.wit_foreign.proofs.Grouping.{added_apart, first_needed}

-- what stands at a place once another is set
get_set : {X : Type 0} (xs : List X) (i : ℕ) (x : X) (k : ℕ) (y : X) → slice_get (set xs i x) k ≡ Some y → ((k ≡ i) × (y ≡ x)) ⊎ ((k ≡ i → ⊥) × (slice_get xs k ≡ Some y))
get_set [] i x k y h = absurd cc
get_set (z ∷ xs) zero x zero y h = inl (refl, sym (same_Some x y h))
get_set (z ∷ xs) zero x (suc k) y h = inr ((λ e. absurd (omega (arith, e))), h)
get_set (z ∷ xs) (suc i) x zero y h = inr ((λ e. absurd (omega (arith, e))), h)
get_set (z ∷ xs) (suc i) x (suc k) y h =
    elim (get_set xs i x k y h) as (λ _. ((suc k ≡ suc i) × (y ≡ x)) ⊎ ((suc k ≡ suc i → ⊥) × (slice_get xs k ≡ Some y))) [
      | inl same ↦ inl (ap suc same.0, same.1)
      | inr other ↦ inr ((λ e. other.0 (omega (arith, e))), other.1)
    ]

module _ {K : Type 0} (key : NeedTree → K) where
  -- where none is of a key, its part is empty
  part_empty : (x : K) (ns fs : List NeedTree) (rs : List (List NeedTree)) → AreGroups key ns fs rs → ((m : NeedTree) → Has ns m → key m ≡ x → ⊥) → IsPart key x ns []
  part_empty x ns fs rs no_groups none = no_part
  part_empty x ns fs rs (one_need_more ms gs ss n fs2 rs2 before add) none =
      of_another ms [] n (part_empty x ms gs ss before (λ m has. none m (has_left ms (n ∷ []) m has))) (none n (has_last ms n))

  module _ (ns fs : List NeedTree) (rs : List (List NeedTree)) (groups : AreGroups key ns fs rs) (so_far : AreParts key ns fs rs) (n : NeedTree) where
    abbrev Earlier : ℕ → NeedTree → Type 0
    Earlier q f = (p : ℕ) × (m : NeedTree) × (p < q) × (slice_get (ns ++ n ∷ []) p ≡ Some m) × (key m ≡ key f)

    first_before : (j : ℕ) (f : NeedTree) → slice_get fs j ≡ Some f → Earlier (length ns) f
    first_before j f at = (let h = first_needed key ns fs rs groups f (j, at) in (h.0, f, slice_get_within ns h.0 f h.1, get_kept ns (n ∷ []) h.0 f h.1, refl))

    ordered_still : (j k : ℕ) (f g : NeedTree) (q : ℕ) (m : NeedTree) → j < k → slice_get fs j ≡ Some f → slice_get fs k ≡ Some g → slice_get (ns ++ n ∷ []) q ≡ Some m → key m ≡ key g → Earlier q f
    ordered_still j k f g q m less at_j at_k at_q same =
        elim (get_more ns n m q at_q) as (λ _. Earlier q f) [
          | inl was ↦ (let r = so_far.ordered j k f g q m less at_j at_k was same in (r.0, r.1, r.2, get_kept ns (n ∷ []) r.0 r.1 r.3, r.4))
          | inr last ↦ subst (λ (z : ℕ). Earlier z f) (sym last.0) (first_before j f at_j)
        ]

    module _ (i : ℕ) (f0 : NeedTree) (r0 : List NeedTree) (at_f : slice_get fs i ≡ Some f0) (same : key f0 ≡ key n) (at_r : slice_get rs i ≡ Some r0) where
      joined_part : (k : ℕ) (f : NeedTree) (r : List NeedTree) → slice_get fs k ≡ Some f → slice_get (set rs i (r0 ++ n ∷ [])) k ≡ Some r → IsPart key (key f) (ns ++ n ∷ []) r × (slice_get r 0 ≡ Some f)
      joined_part k f r at_k at_row =
          elim (get_set rs i (r0 ++ n ∷ []) k r at_row) as (λ _. IsPart key (key f) (ns ++ n ∷ []) r × (slice_get r 0 ≡ Some f)) [
            | inl here ↦
                (let one : f0 ≡ f = same_Some f0 f (sym at_f ∙ subst (λ (z : ℕ). slice_get fs z ≡ Some f) here.0 at_k) in
                let was = so_far.parts i f0 r0 at_f at_r in
                subst (λ (z : NeedTree). IsPart key (key z) (ns ++ n ∷ []) r × (slice_get r 0 ≡ Some z)) one
                (subst (λ (z : List NeedTree). IsPart key (key f0) (ns ++ n ∷ []) z × (slice_get z 0 ≡ Some f0)) (sym here.1) (of_key ns r0 n was.0 (sym same), get_kept r0 (n ∷ []) 0 f0 was.1)))
            | inr other ↦
                (let was = so_far.parts k f r at_k other.1 in
                (of_another ns r n was.0 (λ e. other.0 (so_far.apart k i f f0 at_k at_f (sym e ∙ sym same))), was.1))
          ]

      joined : AreParts key (ns ++ n ∷ []) fs (set rs i (r0 ++ n ∷ []))
      joined = record {
        so_many = length-set rs i (r0 ++ n ∷ []) ∙ so_far.so_many;
        there = λ m h. elim (get_more ns n m h.0 h.1) as (λ _. (f : NeedTree) × Has fs f × (key f ≡ key m)) [
          | inl was ↦ so_far.there m (h.0, was)
          | inr last ↦ (f0, (i, at_f), same ∙ ap key (sym last.1))
        ];
        apart = so_far.apart;
        parts = joined_part;
        ordered = ordered_still;
      }

    module _ (absent : (f : NeedTree) → Has fs f → key f ≡ key n → ⊥) where
      none_before : (m : NeedTree) → Has ns m → key m ≡ key n → ⊥
      none_before m has e = (let f = so_far.there m has in absent f.0 f.1 (f.2 ∙ e))

      begun_part : (k : ℕ) (f : NeedTree) (r : List NeedTree) → slice_get (fs ++ n ∷ []) k ≡ Some f → slice_get (rs ++ (n ∷ []) ∷ []) k ≡ Some r → IsPart key (key f) (ns ++ n ∷ []) r × (slice_get r 0 ≡ Some f)
      begun_part k f r at_k at_row =
          elim (get_more fs n f k at_k) as (λ _. IsPart key (key f) (ns ++ n ∷ []) r × (slice_get r 0 ≡ Some f)) [
            | inl was_f ↦ elim (get_more rs (n ∷ []) r k at_row) as (λ _. IsPart key (key f) (ns ++ n ∷ []) r × (slice_get r 0 ≡ Some f)) [
              | inl was_r ↦ (let was = so_far.parts k f r was_f was_r in (of_another ns r n was.0 (λ e. absent f (k, was_f) (sym e)), was.1))
              | inr last_r ↦ absurd (let l : k < length fs = slice_get_within fs k f was_f in let e : k ≡ length rs = last_r.0 in let s = so_far.so_many in omega (arith, s))
            ]
            | inr last_f ↦ elim (get_more rs (n ∷ []) r k at_row) as (λ _. IsPart key (key f) (ns ++ n ∷ []) r × (slice_get r 0 ≡ Some f)) [
              | inl was_r ↦ absurd (let l : k < length rs = slice_get_within rs k r was_r in let e : k ≡ length fs = last_f.0 in let s = so_far.so_many in omega (arith, s))
              | inr last_r ↦
                  subst (λ (z : NeedTree). IsPart key (key z) (ns ++ n ∷ []) r × (slice_get r 0 ≡ Some z)) (sym last_f.1)
                  (subst (λ (z : List NeedTree). IsPart key (key n) (ns ++ n ∷ []) z × (slice_get z 0 ≡ Some n)) (sym last_r.1) (of_key ns [] n (part_empty (key n) ns fs rs groups none_before) refl, refl))
            ]
          ]

      begun_ordered : (j k : ℕ) (f g : NeedTree) (q : ℕ) (m : NeedTree) → j < k → slice_get (fs ++ n ∷ []) j ≡ Some f → slice_get (fs ++ n ∷ []) k ≡ Some g → slice_get (ns ++ n ∷ []) q ≡ Some m → key m ≡ key g → Earlier q f
      begun_ordered j k f g q m less at_j at_k at_q same =
          elim (get_more fs n f j at_j) as (λ _. Earlier q f) [
            | inl was_j ↦ elim (get_more fs n g k at_k) as (λ _. Earlier q f) [
              | inl was_k ↦ ordered_still j k f g q m less was_j was_k at_q same
              | inr last_k ↦ elim (get_more ns n m q at_q) as (λ _. Earlier q f) [
                | inl was ↦ absurd (none_before m (q, was) (same ∙ ap key last_k.1))
                | inr last ↦ subst (λ (z : ℕ). Earlier z f) (sym last.0) (first_before j f was_j)
              ]
            ]
            | inr last_j ↦ elim (get_more fs n g k at_k) as (λ _. Earlier q f) [
              | inl was_k ↦ absurd (let l : k < length fs = slice_get_within fs k g was_k in let h : j ≡ length fs = last_j.0 in omega (arith, less))
              | inr last_k ↦ absurd (let h : j ≡ length fs = last_j.0 in let i : k ≡ length fs = last_k.0 in omega (arith, less))
            ]
          ]

      begun : AreParts key (ns ++ n ∷ []) (fs ++ n ∷ []) (rs ++ (n ∷ []) ∷ [])
      begun = record {
        so_many = length_more rs (n ∷ []) ∙ ap (λ (z : ℕ). z + 1) so_far.so_many ∙ sym (length_more fs n);
        there = λ m h. elim (get_more ns n m h.0 h.1) as (λ _. (f : NeedTree) × Has (fs ++ n ∷ []) f × (key f ≡ key m)) [
          | inl was ↦ (let f = so_far.there m (h.0, was) in (f.0, has_left fs (n ∷ []) f.0 f.1, f.2))
          | inr last ↦ (n, has_last fs n, ap key (sym last.1))
        ];
        apart = added_apart key n fs rs (fs ++ n ∷ []) (rs ++ (n ∷ []) ∷ []) (begins absent) so_far.apart;
        parts = begun_part;
        ordered = begun_ordered;
      }

    one_more : (gs : List NeedTree) (ss : List (List NeedTree)) → AddsNeed key n fs rs gs ss → AreParts key (ns ++ n ∷ []) gs ss
    one_more gs ss (joins i f0 r0 at_f same at_r) = joined i f0 r0 at_f same at_r
    one_more gs ss (begins absent) = begun absent

  pub are_parts : (ns fs : List NeedTree) (rs : List (List NeedTree)) → AreGroups key ns fs rs → AreParts key ns fs rs
  are_parts ns fs rs no_groups = record {
    so_many = refl;
    there = λ n h. absurd (has_none n h);
    apart = λ j k f g at. absurd (has_none f (j, at));
    parts = λ k f r at. absurd (has_none f (k, at));
    ordered = λ j k f g q n less at. absurd (has_none f (j, at));
  }
  are_parts ns fs rs (one_need_more ms gs ss n fs2 rs2 before add) = one_more ms gs ss before (are_parts ms gs ss before) n fs2 rs2 add
