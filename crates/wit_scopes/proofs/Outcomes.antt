-- What follows of the outcomes of calls.
use Rattle.std.proofs.Common.{Result, Ok, Err}
use Rattle.std.specs.Prelude.{OnOk, IfOk, IfErr}
use Rattle.std.specs.Result.{result_and}

-- what follows where a call fails
pub if_err : {T E : Type 0} (r : Result T E) (P Q : E → Type 0) → ((e : E) → P e → Q e) → IfErr r P → IfErr r Q
if_err (Ok x) P Q f p = p
if_err (Err e) P Q f p = f e p

-- what follows of what a call answers
pub if_ok : {T E : Type 0} (r : Result T E) (P Q : T → Type 0) → ((x : T) → P x → Q x) → IfOk r P → IfOk r Q
if_ok (Ok x) P Q f p = f x p
if_ok (Err e) P Q f p = p

-- what follows where a call succeeds
pub on_ok : {T E : Type 0} (r : Result T E) {P Q : Type 0} → (P → Q) → OnOk r P → OnOk r Q
on_ok (Ok x) f p = f p
on_ok (Err e) f p = p

-- what follows of a value that goes with the outcome of a call
pub and_ok : {T U E : Type 0} (r : Result T E) (x : U) {P : Type 0} (Q : U → Type 0) → (P → Q x) → OnOk r P → IfOk (result_and r (Ok x)) Q
and_ok (Ok y) x Q f p = f p
and_ok (Err e) x Q f p = p

pub and_err : {T U E : Type 0} (r : Result T E) (x : U) (P : E → Type 0) → IfErr r P → IfErr (result_and r (Ok x)) P
and_err (Ok y) x P p = p
and_err (Err e) x P p = p
