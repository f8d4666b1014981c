-- What follows of a value that goes with the outcome of a call.
use Rattle.std.proofs.Common.{Result, Ok, Err}
use Rattle.std.specs.Prelude.{OnOk, IfOk, IfErr}
use Rattle.std.specs.Result.{result_and}

pub and_ok : {T U E : Type 0} (r : Result T E) (x : U) {P : Type 0} (Q : U → Type 0) → (P → Q x) → OnOk r P → IfOk (result_and r (Ok x)) Q
and_ok (Ok y) x Q f p = f p
and_ok (Err e) x Q f p = p

pub and_err : {T U E : Type 0} (r : Result T E) (x : U) (P : E → Type 0) → IfErr r P → IfErr (result_and r (Ok x)) P
and_err (Ok y) x P p = p
and_err (Err e) x P p = p
