use Rattle.std.proofs.Common.{refl, ap, inl}
use Rattle.std.proofs.lemmas.Result.{IfOk-weaker, IfErr-weaker, on_err_weaker}
use Rattle.type_writing.proofs.Standing.{in_either}
use Rattle.type_writing.proofs.Refusals.{cause_weaker}
use Rattle.type_sinks.specs.Kept.{index_of}
use Rattle.type_sinks.specs.Views.{declarator_values}
use Rattle.type_sinks.proofs.Declared.{over_sets, over_names, over_stays, over_begins, foreign_outside, foreign_sets, foreign_names, foreign_taken, foreign_begins, given_same}
use Rattle.type_sinks.proofs.PlacedInside.{foreign_placed, over_same_placed, root_same_placed}
use Rattle.type_sinks.proofs.inside.InterfaceTypesValtypeEncoder.foreign.Goals as goal

pub returns : goal.returns
returns c =
    let old = c.args.self.now in
    let new = c.add.new.self in
    let id = c.args.id in
    let n = c.args.name.now in
    let k = c.in_ok-index.index in
    let taken = c.in_ok-index.ensures.ok in
    let r = c.add.result in
    let a = c.add.ensures in
    record {
      setting = in_either r _ (λ i h. foreign_sets old _ new n k id (record { interface = refl; known = refl; exports = refl; declarators = refl }) taken h.1)
          (λ s. over_sets old _ new n id k (record { interface = refl; known = refl; exports = refl; declarators = refl }) taken s) a.ok a.err;
      outside = in_either r _ (λ i h. foreign_outside old new c.take.new.self n k id taken h.1.root) (λ s. foreign_outside old new c.take.new.self n k id taken s.root) a.ok a.err;
      table = ap index_of a.known;
      names = in_either r _ (λ i h. foreign_names old _ new k (record { interface = refl; known = refl; exports = refl; declarators = refl }) h.1)
          (λ s. over_names old _ new (record { interface = refl; known = refl; exports = refl; declarators = refl }) s) a.ok a.err;
      keeps = λ j g. given_same old new j a.exports g;
      begins = in_either r _ (λ i h. foreign_begins old _ new n k id (record { interface = refl; known = refl; exports = refl; declarators = refl }) taken h.1)
          (λ s. over_begins old _ new n id k (record { interface = refl; known = refl; exports = refl; declarators = refl }) taken s) a.ok a.err;
      placed = in_either r _ (λ i h. foreign_placed old _ new n k id _ (record { interface = refl; known = refl; exports = refl; declarators = refl }) taken h.1)
          (λ s. over_same_placed old _ new n k id (record { interface = refl; known = refl; exports = refl; declarators = refl }) taken s) a.ok a.err;
      ok = IfOk-weaker r _ _ (λ i h. foreign_taken old _ new c.args._owner n k id i (record { interface = refl; known = refl; exports = refl; declarators = refl }) taken c.requires h.0 h.1) a.ok;
      err = on_err_weaker r (λ s. over_stays old _ new n id k (record { interface = refl; known = refl; exports = refl; declarators = refl }) taken s) a.err;
      cause = IfErr-weaker r _ _ (cause_weaker (λ h. absurd h) (λ h. inl h)) a.cause;
    }

pub returns-in_err-index-clause-placed : goal.returns-in_err-index-clause-placed
returns-in_err-index-clause-placed c = λ types g. root_same_placed c.args.self.now.root c.take.new.self (declarator_values c.args.self.now) c.in_err-index.ensures.err
