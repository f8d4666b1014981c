-- One reading behind another.
use Rattle.std.proofs.Common.{◌≡◌, List, refl, Ok, Err}
use Rattle.wit_tokens.specs.Passed.wit_words-Token.{Tok}
use Rattle.wit_productions.specs.Production.{Outcome, and_then}

pub then_same : {A B : Type 0} (o : Outcome A) {f g : A → List Tok → Outcome B} → ((x : A) (rest : List Tok) → f x rest ≡ g x rest) → and_then o f ≡ and_then o g
then_same (Ok p) same = same p.0 p.1
then_same (Err e) same = refl

-- of three, the first two together
pub regrouped : {A B C : Type 0} (o : Outcome A) (f : A → List Tok → Outcome B) (g : B → List Tok → Outcome C) → and_then o (λ x rest. and_then (f x rest) g) ≡ and_then (and_then o f) g
regrouped (Ok p) f g = refl
regrouped (Err e) f g = refl
