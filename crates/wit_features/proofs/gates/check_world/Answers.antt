use Rattle.std.proofs.Common.{◌≡◌, false, inl, inr}
use Rattle.std.proofs.lemmas.Result.{on_ok_weaker}
use Rattle.wit_features.specs.Features.{breaks_gate}
use Rattle.wit_features.proofs.Leading.{gate_on_time}
use Rattle.wit_features.proofs.gates.check_world.Goals as goal

pub returns-clause-ok : goal.returns-clause-ok
returns-clause-ok c =
    let w = c.args.world.now in
    let version = c.args.of.now.version in
    let own = gate_on_time version w.stability w.span c.in_ok-check_gate.ensures.ok in
    on_ok_weaker c.check_includes.result
    (λ includes s at g. elim g as (λ _. breaks_gate version s ≡ false) [
      | inl here ↦ own s at here
      | inr (inl import) ↦ c.in_ok-check_side.ensures.ok s at import
      | inr (inr (inl export)) ↦ c.in_ok-check_side-2.ensures.ok s at export
      | inr (inr (inr include)) ↦ includes s at (rw c.as_slice.ensures.value include)
    ])
    c.check_includes.ensures.ok
