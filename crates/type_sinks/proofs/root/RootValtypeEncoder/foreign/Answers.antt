use Rattle.std.proofs.Common.{[], ap}
use Rattle.std.proofs.lemmas.Result.{IfOk-weaker, on_err_weaker}
use Rattle.type_writing.proofs.Standing.{begins_here, in_either, begins_same}
use Rattle.type_sinks.specs.Kept.{index_of}
use Rattle.type_sinks.specs.Views.{root_scope}
use Rattle.type_sinks.proofs.Rooted.{setting_from, root_stays}
use Rattle.type_sinks.proofs.PlacedRoot.{same_placed}
use Rattle.type_sinks.proofs.root.RootValtypeEncoder.foreign.Goals as goal

pub returns : goal.returns
returns c =
    let old = c.args.self.now in
    let new = c.take.new.self in
    let r = c.take.result in
    let a = c.take.ensures in
    let stays = root_stays old new in
    record {
      setting = in_either r _ (λ i h. setting_from old new h.names h.homes h.functions h.instances) (λ s. (stays s).0) a.ok a.err;
      outside = begins_here [];
      table = ap index_of a.known;
      names = in_either r _ (λ i h. h.imported) (λ s. (stays s).2) a.ok a.err;
      keeps = λ k h. tt;
      begins = in_either r _ (λ i h types g. h.begins) (λ s types g. begins_same (root_scope old).types (root_scope new).types (stays s).1) a.ok a.err;
      placed = λ types g p. in_either r _ (λ i h. h.placed types g p) (λ s. same_placed old new s p) a.ok a.err;
      ok = IfOk-weaker r _ _ (λ i h types d g at owner name. (h.good types g, h.stands types d g at name)) a.ok;
      err = on_err_weaker r (λ s. (stays s).4) a.err;
      cause = a.cause;
    }
