-- The packages of names, one more at a time.
use Rattle.std.proofs.Common.{◌≡◌, ℕ, ◌+◌, ◌≤◌, zero, suc, Bool, List, [], ◌∷◌, ◌++◌, None, Some, refl, sym, ap, ◌∙◌, subst, arith, length, take, drop, add-one}
use Rattle.std.proofs.lemmas.List.{length-map, take_all}
use Rattle.std.proofs.lemmas.Option.{same_Some}
use Rattle.std.specs.Map.{lookup, keys_of}
use Rattle.std.specs.Prelude.{slice_get}
use Rattle.wit_finding.specs.Packages.{AreNamed}

past : {X : Type 0} (xs : List X) (k : ℕ) → drop k xs ≡ [] → length xs ≤ k
past [] k e = omega arith
past (x ∷ xs) zero e = absurd cc
past (x ∷ xs) (suc k) e = (let l : length xs ≤ k = past xs k e in omega arith)

pub is_unknown : {K : Type 0} (eq : K → K → Bool) (names : List (K × ℕ)) (x y : K) → y ≡ x → None ≡ lookup (eq x) names → lookup (eq y) names ≡ None
is_unknown {K} eq names x y e none = ap (λ (z : K). lookup (eq z) names) e ∙ sym none

module _ {K V : Type 0} where
  -- what is named at a place
  pub dep_at : (deps : List (K × V)) (k : ℕ) (x : K) (rest : List K) → drop k (keys_of deps) ≡ x ∷ rest → (d : K × V) × (slice_get deps k ≡ Some d) × (d.0 ≡ x)
  dep_at [] zero x rest e = absurd cc
  dep_at [] (suc k) x rest e = absurd cc
  dep_at (d ∷ deps) zero x rest e = (d, refl, cc)
  dep_at (d ∷ deps) (suc k) x rest e = dep_at deps k x rest e

  module _ (eq : K → K → Bool) (names : List (K × ℕ)) where
    one_more : (deps : List (K × V)) (k : ℕ) (ids : List ℕ) (d : K × V) (i : ℕ) → slice_get deps k ≡ Some d → lookup (eq d.0) names ≡ Some i → AreNamed eq names (take k deps) ids
        → AreNamed eq names (take (suc k) deps) (ids ++ i ∷ [])
    one_more [] k ids d i at is h = absurd cc
    one_more (e ∷ deps) zero [] d i at is h = (subst (λ (x : K × V). lookup (eq x.0) names ≡ Some i) (sym (same_Some e d at)) is, h)
    one_more (e ∷ deps) zero (j ∷ ids) d i at is h = absurd h
    one_more (e ∷ deps) (suc k) [] d i at is h = absurd h
    one_more (e ∷ deps) (suc k) (j ∷ ids) d i at is h = (h.0, one_more deps k ids d i at is h.1)

    pub next_named : (deps : List (K × V)) (k n : ℕ) (ids now : List ℕ) (x : K) (rest : List K) (i : ℕ) → n ≡ k + 1 → now ≡ ids ++ i ∷ [] → drop k (keys_of deps) ≡ x ∷ rest
        → Some i ≡ lookup (eq x) names → AreNamed eq names (take k deps) ids → AreNamed eq names (take n deps) now
    next_named deps k n ids now x rest i next grown left is h =
        let d = dep_at deps k x rest left in
        subst (AreNamed eq names (take n deps)) (sym grown) (subst (λ (m : ℕ). AreNamed eq names (take m deps) (ids ++ i ∷ [])) (sym (next ∙ add-one k))
        (one_more deps k ids d.0 i d.1 (ap (λ (z : K). lookup (eq z) names) d.2 ∙ sym is) h))

    pub all_named : (deps : List (K × V)) (k : ℕ) (ids : List ℕ) → drop k (keys_of deps) ≡ [] → AreNamed eq names (take k deps) ids → AreNamed eq names deps ids
    all_named deps k ids e h =
        let l : length (keys_of deps) ≤ k = past (keys_of deps) k e in
        let size : length (keys_of deps) ≡ length deps = length-map deps (λ (d : K × V). d.0) in
        subst (λ (ds : List (K × V)). AreNamed eq names ds ids) (take_all k deps (omega arith)) h
