use Rattle.std.proofs.Common.{◌<◌, inl, inr, length, arith}
use Rattle.wit_reach.specs.Reach.{Uses}
use Rattle.wit_reach.proofs.Ends.{closed_ends}
use Rattle.wit_reach.proofs.reach.law_elaborated_are_there.Goals as goal

pub returns : goal.returns
returns c = λ g w order there back e i h.
    let o = e.only i h in
    let start : o.0 < length g = elim o.1 as (λ _. o.0 < length g) [
      | inl listed ↦ there.imports o.0 listed
      | inr other ↦ elim other as (λ _. o.0 < length g) [
        | inl used ↦ there.used o.0 used
        | inr needed ↦ (let below : o.0 < needed.1.0 = back needed.1.0 o.0 needed.1.2 in let within : needed.1.0 < length g = there.exports needed.1.0 needed.1.1 in omega arith)
      ]
    ] in
    closed_ends (Uses g) (λ k. k < length g) (λ k j l u. let below : j < k = back k j u in omega arith) o.0 o.2.0 i start o.2.1
