-- Reading one after the other, as a loop does.
use Rattle.std.proofs.Common.{◌≡◌, ℕ, List, [], ◌∷◌, ◌++◌, Result, Ok, Err, refl, ap, append_assoc}
use Rattle.binary_grammar.specs.declared.fault.Fault.{Fault}
use Rattle.binary_grammar.specs.Format.{and_then, onto}

pub regroup : {X : Type 0} (front : List X) (n : X) (read : Result (List X × List ℕ) Fault) → onto front (and_then read (λ x. Ok (n ∷ x.0, x.1))) ≡ onto (front ++ n ∷ []) read
regroup {X = X} front n (Ok x) = ap (λ (ns : List X). Ok (ns, x.1)) (simp append_assoc)
regroup front n (Err f) = refl
