use Rattle.std.proofs.Common.{◌≡◌, ◌∙◌, Bool, true, length, not, ap, sym, subst, arith}
use Rattle.std.specs.Prelude.{nat_le, nat_lt, IfOk}
use Rattle.flat_types.specs.Signature.{signature_with}
use Rattle.flat_types.specs.View.{signature_value}
use Rattle.flat_types.specs.declared.signature.WasmSignature.{WasmSignature}
use Rattle.flat_types.proofs.Signing.{is_long, is_more}
use Rattle.flat_types.proofs.signature.signature_of.Goals as goal

pub returns-then-results-gt-MOST_RESULTS : goal.returns-then-results-gt-MOST_RESULTS
returns-then-results-gt-MOST_RESULTS c =
    let size : c.len-indirect_params.result ≡ length c.args.params.items = omega arith in
    let indirect : nat_lt 16 c.len-indirect_params.result ≡ not (nat_le (length c.args.params.items) 16) = ap (nat_lt 16) size ∙ is_more 16 (length c.args.params.items) in
    subst (λ (b : Bool). IfOk c.with_result_in_memory.result (λ (s : WasmSignature). signature_value s ≡ signature_with c.args.variant (not (nat_le (length c.args.params.items) 16)) b c.args.params.items c.args.results.now))
    (sym (is_long 1 c.args.results.now c.if-results-gt-MOST_RESULTS.true))
    (subst (λ (b : Bool). IfOk c.with_result_in_memory.result (λ (s : WasmSignature). signature_value s ≡ signature_with c.args.variant b true c.args.params.items c.args.results.now)) indirect
    (c.with_result_in_memory.ensures c.args.results.now))
