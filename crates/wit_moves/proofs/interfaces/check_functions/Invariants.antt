use Rattle.std.proofs.Common.{◌≡◌, ◌<◌, ℕ, true, false, Some, String}
use Rattle.std.specs.Prelude.{slice_get}
use Rattle.std.specs.declared.alloc.Global.{Global}
use Rattle.wit_features.specs.Passed.wit_types-declared-function-Function.{Function}
use Rattle.wit_moves.specs.Moved.{is_signature_placed}
use Rattle.wit_moves.specs.Interfaces.{function_stays}
use Rattle.wit_moves.proofs.interfaces.check_functions.Given as goal

abbrev pub invariant-loop-place : goal.invariant-loop-place
invariant-loop-place l = (k : ℕ) (e : String Global × Function) → k < l.place → slice_get l.functions.entries k ≡ Some e → function_stays l.features l.places e.1 ≡ true → is_signature_placed l.places e.1.params.items e.1.result ≡ false → ⊥
