-- Rising lists have each member once.
use Rattle.std.proofs.Common.{◌≡◌, ℕ, ◌<◌, ◌+◌, List, [], ◌∷◌, zero, suc, false, refl, sym, ◌∙◌, arith, length, take, get_or, nat_eq}
use Rattle.std.proofs.lemmas.Bool.{ne_eqb}
use Rattle.std.proofs.lemmas.List.{take_more}
use Rattle.std.specs.List.{list_any}
use Rattle.indexmap.specs.IndexSet.{insert_key}
use Rattle.wit_types.proofs.Passed.wit_order-Lists.{has_get}
use Rattle.wit_reach.specs.Paths.{AreRising}

is_new : (xs : List ℕ) (k : ℕ) → AreRising xs → k < length xs → list_any (nat_eq (get_or xs k 0)) (take k xs) ≡ false
is_new [] k rising l = absurd (omega arith)
is_new (x ∷ xs) zero rising l = refl
is_new (x ∷ xs) (suc k) rising l =
    let within : k < length xs = omega arith in
    let above : x < get_or xs k 0 = rising.0 (get_or xs k 0) (has_get xs k within) in
    rw (ne_eqb (get_or xs k 0) x (λ e. absurd (omega (arith, e)))) (is_new xs k rising.1 within)

read : (xs : List ℕ) (k d : ℕ) → k < length xs → get_or xs k d ≡ get_or xs k 0
read [] k d l = absurd (omega arith)
read (x ∷ xs) zero d l = refl
read (x ∷ xs) (suc k) d l = read xs k d (omega arith)

-- one more of a rising list is put behind those before it
pub put_behind : (xs keys now : List ℕ) (k x y : ℕ) → AreRising xs → k < length xs → keys ≡ take k xs → x ≡ get_or xs k x → y ≡ x → now ≡ insert_key nat_eq keys y → now ≡ take (k + 1) xs
put_behind xs keys now k x y rising l before is same e =
    let at : y ≡ get_or xs k 0 = same ∙ is ∙ read xs k x l in
    e ∙ rw (before, at, is_new xs k rising l) (sym (take_more xs k 0 l))
