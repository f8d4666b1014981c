-- Writing those that share a section, one after the other.
use Rattle.std.proofs.Common.{◌≡◌, ℕ, zero, suc, ◌+◌, ◌-◌, ◌<◌, ◌≤◌, Bool, true, false, ◌&&◌, not, eqb, List, [], ◌∷◌, ◌++◌, map, take, drop, get_or, length, refl, sym, ap, subst, ◌∙◌, append_assoc, arith}
use Rattle.std.specs.List.{flat_map, All}
use Rattle.std.proofs.lemmas.Bool.{eqb-true}
use Rattle.std.proofs.lemmas.List.{drop_more, length-drop, drop-map, take_all}
use Rattle.std.proofs.Math.Seq.{drop-nil}
use Rattle.std.proofs.lemmas.List.Elements.{All-cons, All-head, All-tail}
use Rattle.component_entries.specs.Runs as spec

both : (a b : Bool) → (a && b) ≡ true → a ≡ true
both true b e = refl
both false b e = absurd cc

module _ {X V : Type 0} (section : V → ℕ) (alone : ℕ → Bool) (value : X → V) (b : ℕ) (xs : List X) (i : ℕ) (x : X) (here : i < length xs) (is : x ≡ get_or xs i x) where
  behind : map value (drop i xs) ≡ value x ∷ map value (drop (i + 1) xs)
  behind = ap (map value) (drop_more xs i x here ∙ ap (λ y. y ∷ drop (i + 1) xs) (sym is))

  pub run_goes_on : spec.joins section alone b (value x) ≡ true → spec.run_of section alone b (map value (drop i xs)) ≡ value x ∷ spec.run_of section alone b (map value (drop (i + 1) xs))
  run_goes_on j = ap (spec.run_of section alone b) behind ∙ rw j refl

  pub run_ends : spec.joins section alone b (value x) ≡ false → spec.run_of section alone b (map value (drop i xs)) ≡ []
  run_ends j = ap (spec.run_of section alone b) behind ∙ rw j refl

pub joins_same : {V : Type 0} (section : V → ℕ) (alone : ℕ → Bool) (b : ℕ) (v : V) → spec.joins section alone b v ≡ true → section v ≡ b
joins_same section alone b v j = eqb-true (section v) b (both (eqb (section v) b) (not (alone b)) j)

tested : (b : Bool) (P : Type 0) → (b ≡ true → P) → (b ≡ false → P) → P
tested true P passes fails = passes refl
tested false P passes fails = fails refl

module _ {V : Type 0} (section : V → ℕ) (alone : ℕ → Bool) where
  -- the first of the runs
  pub runs_begin : (v : V) (vs : List V) → spec.runs section alone (v ∷ vs) ≡ spec.first_run section alone v vs ∷ spec.runs section alone (spec.behind_run section alone (section v) vs)
  runs_begin v [] = refl
  runs_begin v (w ∷ ws) =
      tested (spec.joins section alone (section v) w) (spec.runs section alone (v ∷ w ∷ ws) ≡ spec.first_run section alone v (w ∷ ws) ∷ spec.runs section alone (spec.behind_run section alone (section v) (w ∷ ws)))
      (λ j.
      let same = joins_same section alone (section v) w j in
      let one : spec.runs section alone (w ∷ ws) ≡ (w ∷ spec.run_of section alone (section v) ws) ∷ spec.runs section alone (spec.behind_run section alone (section v) ws) =
      runs_begin w ws ∙ ap (λ b. (w ∷ spec.run_of section alone b ws) ∷ spec.runs section alone (spec.behind_run section alone b ws)) same in
      ap (spec.with_first section alone v) one ∙ rw j refl)
      (λ j. ap (spec.with_first section alone v) (runs_begin w ws) ∙ rw j (ap (λ r. (v ∷ []) ∷ r) (sym (runs_begin w ws))))

  pub behind_is_dropped : (b : ℕ) (vs : List V) → spec.behind_run section alone b vs ≡ drop (length (spec.run_of section alone b vs)) vs
  behind_is_dropped b [] = refl
  behind_is_dropped b (v ∷ vs) =
      tested (spec.joins section alone b v) (spec.behind_run section alone b (v ∷ vs) ≡ drop (length (spec.run_of section alone b (v ∷ vs))) (v ∷ vs))
      (λ j. rw j (behind_is_dropped b vs))
      (λ j. rw j refl)

  pub front_begins : (vs : List V) → 0 < length vs → spec.runs section alone vs ≡ spec.front section alone vs ∷ spec.runs section alone (drop (length (spec.front section alone vs)) vs)
  front_begins [] h = absurd (omega arith)
  front_begins (v ∷ vs) h = runs_begin v vs ∙ ap (λ r. spec.first_run section alone v vs ∷ spec.runs section alone r) (behind_is_dropped (section v) vs)

pub rest_of : {X V : Type 0} (f : X → V) (xs : List X) (at : ℕ) → map f (take (length xs - at) (drop at xs)) ≡ drop at (map f xs)
rest_of f xs at =
    let all : length (drop at xs) ≤ length xs - at = omega (arith, length-drop at xs) in
    ap (map f) (take_all (length xs - at) (drop at xs) all) ∙ sym (drop-map f at xs)

-- one, and what is behind it
pub split_of : {X V : Type 0} (f : X → V) (xs : List X) (at : ℕ) (x : X) → at < length xs → x ≡ get_or xs at x → f x ∷ map f (take (length xs - (at + 1)) (drop (at + 1) xs)) ≡ drop at (map f xs)
split_of f xs at x here is =
    ap (λ r. f x ∷ r) (rest_of f xs (at + 1) ∙ drop-map f (at + 1) xs) ∙ ap (map f) (ap (λ y. y ∷ drop (at + 1) xs) is ∙ sym (drop_more xs at x here)) ∙ sym (drop-map f at xs)

pub drop_further : {X : Type 0} (n m : ℕ) (xs : List X) → drop m (drop n xs) ≡ drop (n + m) xs
drop_further zero m xs = ap (λ k. drop k xs) (omega arith)
drop_further (suc n) m [] = drop-nil m ∙ sym (drop-nil (suc n + m))
drop_further (suc n) m (x ∷ xs) =
    let e : suc n + m ≡ suc (n + m) = omega arith in
    drop_further n m xs ∙ ap (λ k. drop k (x ∷ xs)) (sym e)

-- what is still to be written of all
pub record Left {V : Type 0} (write : V → List ℕ) (P : V → Type 0) (all left : List V) (begun out : List ℕ) : Type 0 where
  pub bytes : out ++ flat_map write left ≡ begun ++ flat_map write all
  pub typed : All P left → All P all
  pub each : All P all → All P left

module _ {V : Type 0} (write : V → List ℕ) (P : V → Type 0) (all left : List V) (begun out : List ℕ) (so_far : Left write P all left begun out) (v : V) (more : List V) (is : left ≡ v ∷ more) where
  pub one_written : (new : List ℕ) → new ≡ out ++ write v → P v → Left write P all more begun new
  one_written new added p = record {
    bytes = ap (λ s. s ++ flat_map write more) added ∙ append_assoc out (write v) (flat_map write more) ∙ sym (ap (λ vs. out ++ flat_map write vs) is) ∙ so_far.bytes;
    typed = λ h. so_far.typed (subst (All P) (sym is) (All-cons P v more p h));
    each = λ h. All-tail P v more (subst (All P) is (so_far.each h));
  }

  pub one_fails : (P v → ⊥) → All P all → ⊥
  one_fails refused h = refused (All-head P v more (subst (All P) is (so_far.each h)))
