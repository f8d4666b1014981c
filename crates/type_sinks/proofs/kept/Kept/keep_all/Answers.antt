use Rattle.type_sinks.specs.Kept.{index_of}
use Rattle.type_sinks.proofs.Keeping.{kept_none, kept_next}
use Rattle.type_sinks.proofs.kept.Kept.keep_all.Goals as goal

pub loop-id-init : goal.loop-id-init
loop-id-init c = kept_none (index_of c.args.self.now) c.args.index

pub loop-id-preserved : goal.loop-id-preserved
loop-id-preserved c = kept_next (index_of c.args.self.now) (index_of c.loop-id.self) (index_of c.keep.new.self) c.args.ids.now c.loop-id.id-index c.id-item.result c.args.index c.loop-id-test.true c.id-item.is c.loop-id.invariant c.in_ok-keep.ensures.ok
