-- Reading one after the other, each where those before it are known, as a loop does.
use Rattle.std.proofs.Common.{◌≡◌, ℕ, suc, ◌-◌, ◌+◌, ◌≤◌, ◌<◌, List, [], ◌∷◌, ◌++◌, Result, Ok, Err, refl, sym, ap, ◌∙◌, arith}
use Rattle.std.proofs.lemmas.List.{append-nil}
use Rattle.binary_grammar.specs.declared.fault.Fault.{Fault}
use Rattle.binary_grammar.specs.declared.fault.ReadError.{ReadError}
use Rattle.binary_grammar.specs.declared.fault.ReadError.TheVariants as errors
use Rattle.binary_grammar.specs.Format.{Format, onto}
use Rattle.binary_grammar.specs.Several.{series, grown}
use Rattle.binary_grammar.specs.Fault.{Fails}
use Rattle.binary_grammar.proofs.Loops.{regroup}

pub grown_on : {S X : Type 0} (grow : S → X → S) (s : S) (xs : List X) (x : X) → grown grow s (xs ++ x ∷ []) ≡ grow (grown grow s xs) x
grown_on grow s [] x = refl
grown_on grow s (y ∷ xs) x = grown_on grow (grow s y) xs x

module _ {S X : Type 0} (f : S → Format X) (grow : S → X → S) (front : List X) (s : S) (count i : ℕ) (bytes : List ℕ) (total : Result (List X × List ℕ) Fault)
    (so_far : onto front ((series f grow (count - i) s).read bytes) ≡ total) where
  pub series_goes_on : (x : X) (after : List ℕ) → i < count → (f s).read bytes ≡ Ok (x, after) → onto (front ++ x ∷ []) ((series f grow (count - (i + 1)) (grow s x)).read after) ≡ total
  unfolding series
  series_goes_on x after lt h =
      let k : count - i ≡ suc (count - (i + 1)) = omega arith in
      let one : onto front ((series f grow (count - i) s).read bytes) ≡ onto (front ++ x ∷ []) ((series f grow (count - (i + 1)) (grow s x)).read after) = rw (k, h) (regroup front x ((series f grow (count - (i + 1)) (grow s x)).read after)) in
      sym one ∙ so_far

  pub series_stops : (e : ReadError) → i < count → Fails e ((f s).read bytes) → Fails e total
  unfolding series
  series_stops errors.Memory lt h = tt
  series_stops (errors.Malformed d) lt h =
      let k : count - i ≡ suc (count - (i + 1)) = omega arith in
      let one : onto front ((series f grow (count - i) s).read bytes) ≡ Err d = rw (k, h) refl in
      sym so_far ∙ one

  pub series_is_done : count ≤ i → total ≡ Ok (front, bytes)
  unfolding series
  series_is_done le =
      let k : count - i ≡ 0 = omega arith in
      let one : onto front ((series f grow (count - i) s).read bytes) ≡ Ok (front, bytes) = rw k (ap (λ (xs : List X). Ok (xs, bytes)) (append-nil front)) in
      sym so_far ∙ one
