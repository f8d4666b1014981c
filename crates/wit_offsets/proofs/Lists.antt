-- Walks over lists that are changed in place, from the front on.
use Rattle.std.proofs.Common.{◌≡◌, ℕ, ◌<◌, ◌≤◌, ◌+◌, zero, suc, Bool, ◌||◌, not, List, [], ◌∷◌, ◌++◌, refl, sym, ap, arith, get_or, length, set, ◌∙◌, add-one, map}
use Rattle.std.specs.List.{flat_map}
use Rattle.wit_words.specs.declared.source_map.Span.{Span}
use Rattle.wit_offsets.specs.declared.shift.Shift.{Shift}
use Rattle.wit_offsets.specs.Walks.{Walks, noted, span_fits, span_within}

-- the first of them are changed
abbrev pub mapped : {X : Type 0} → (X → X) → ℕ → List X → List X
mapped f zero xs = xs
mapped f (suc n) [] = []
mapped f (suc n) (x ∷ xs) = f x ∷ mapped f n xs

-- and the places of the first of them are noted
abbrev pub seen : {X : Type 0} → (X → List Span) → ℕ → List X → List Span
seen spans zero xs = []
seen spans (suc n) [] = []
seen spans (suc n) (x ∷ xs) = spans x ++ seen spans n xs

module _ {X : Type 0} (f : X → X) where
  pub here : (k : ℕ) (xs : List X) (d : X) → get_or (mapped f k xs) k d ≡ get_or xs k d
  here zero xs d = refl
  here (suc k) [] d = refl
  here (suc k) (x ∷ xs) d = here k xs d

  next : (k : ℕ) (xs : List X) (d y : X) → k < length xs → y ≡ f (get_or xs k d) → set (mapped f k xs) k y ≡ mapped f (suc k) xs
  next k [] d y l e = absurd (omega arith)
  next zero (x ∷ xs) d y l e = ap (λ (z : X). z ∷ xs) e
  next (suc k) (x ∷ xs) d y l e = ap (λ (zs : List X). f x ∷ zs) (next k xs d y (omega arith) e)

  pub mapped_all : (k : ℕ) (xs : List X) → length xs ≤ k → mapped f k xs ≡ map f xs
  mapped_all zero [] l = refl
  mapped_all zero (x ∷ xs) l = absurd (omega arith)
  mapped_all (suc k) [] l = refl
  mapped_all (suc k) (x ∷ xs) l = ap (λ (zs : List X). f x ∷ zs) (mapped_all k xs (omega arith))

  pub mapped_length : (k : ℕ) (xs : List X) → length (mapped f k xs) ≡ length xs
  mapped_length zero xs = refl
  mapped_length (suc k) [] = refl
  mapped_length (suc k) (x ∷ xs) = ap suc (mapped_length k xs)

-- one after the other
pub noted_append : (n : ℕ) (xs ys : List Span) (b : Bool) → noted n b (xs ++ ys) ≡ noted n (noted n b xs) ys
noted_append n [] ys b = refl
noted_append n (x ∷ xs) ys b = noted_append n xs ys (b || not (span_fits n x))

module _ {X : Type 0} (spans : X → List Span) (n : ℕ) where
  next_seen : (k : ℕ) (xs : List X) (d : X) (b : Bool) → k < length xs → noted n b (seen spans (suc k) xs) ≡ noted n (noted n b (seen spans k xs)) (spans (get_or xs k d))
  next_seen k [] d b l = absurd (omega arith)
  next_seen zero (x ∷ xs) d b l = noted_append n (spans x) [] b
  next_seen (suc k) (x ∷ xs) d b l =
      noted_append n (spans x) (seen spans (suc k) xs) b ∙ next_seen k xs d (noted n b (spans x)) (omega arith)
      ∙ ap (λ (c : Bool). noted n c (spans (get_or xs k d))) (sym (noted_append n (spans x) (seen spans k xs) b))

  pub seen_all : (k : ℕ) (xs : List X) → length xs ≤ k → seen spans k xs ≡ flat_map spans xs
  seen_all zero [] l = refl
  seen_all zero (x ∷ xs) l = absurd (omega arith)
  seen_all (suc k) [] l = refl
  seen_all (suc k) (x ∷ xs) l = ap (λ (ss : List Span). spans x ++ ss) (seen_all k xs (omega arith))

module _ {X : Type 0} (by : (Span → Span) → X → X) (spans : X → List Span) where
  -- the walk has gone over the first of them
  pub record Walked (k : ℕ) (before : Shift) (old : List X) (now : Shift) (new : List X) : Type 0 where
    pub offset : now.offset ≡ before.offset
    pub passes : now.passes ≡ noted before.offset before.passes (seen spans k old)
    pub moved : new ≡ mapped (by (span_within before.offset)) k old

  -- and over one more
  pub walked_more : (k : ℕ) (before now after : Shift) (old new : List X) (d y : X) → Walked k before old now new → k < length old → Walks by spans now (get_or new k d) after y → Walked (k + 1) before old after (set new k y)
  walked_more k before now after old new d y so_far within walks =
      let f = by (span_within before.offset) in
      let same : get_or new k d ≡ get_or old k d = ap (λ (zs : List X). get_or zs k d) so_far.moved ∙ here f k old d in
      record {
        offset = walks.offset ∙ so_far.offset;
        passes =
            walks.passes ∙ ap (λ (m : ℕ). noted m now.passes (spans (get_or new k d))) so_far.offset ∙ ap (λ (x : X). noted before.offset now.passes (spans x)) same
            ∙ ap (λ (b : Bool). noted before.offset b (spans (get_or old k d))) so_far.passes ∙ sym (next_seen spans before.offset k old d before.passes within)
            ∙ ap (λ (m : ℕ). noted before.offset before.passes (seen spans m old)) (sym (add-one k));
        moved =
            ap (λ (zs : List X). set zs k y) so_far.moved
            ∙ next f k old d y within (walks.moved ∙ ap (λ (m : ℕ). by (span_within m) (get_or new k d)) so_far.offset ∙ ap f same)
            ∙ ap (λ (m : ℕ). mapped f m old) (sym (add-one k));
      }

  -- over all of them
  pub walked_all : (k : ℕ) (before now : Shift) (old new : List X) → Walked k before old now new → length old ≤ k → Walks (λ f. map (by f)) (flat_map spans) before old now new
  walked_all k before now old new so_far past = record {
    offset = so_far.offset;
    passes = so_far.passes ∙ ap (noted before.offset before.passes) (seen_all spans before.offset k old past);
    moved = so_far.moved ∙ mapped_all (by (span_within before.offset)) k old past;
  }
