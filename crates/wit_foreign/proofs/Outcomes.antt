-- What follows of the outcomes of calls.
use Rattle.std.proofs.Common.{Result, Ok, Err}
use Rattle.std.specs.Prelude.{OnOk, IfOk}

-- what follows of two clauses where a call succeeds
pub on_both : {T E : Type 0} (r : Result T E) {P Q S : Type 0} → (P → Q → S) → OnOk r P → OnOk r Q → OnOk r S
on_both (Ok x) f p q = f p q
on_both (Err e) f p q = p

-- what follows of the value of a call
pub if_ok : {T E : Type 0} (r : Result T E) {P Q : T → Type 0} → ((x : T) → P x → Q x) → IfOk r P → IfOk r Q
if_ok (Ok x) f p = f x p
if_ok (Err e) f p = p
