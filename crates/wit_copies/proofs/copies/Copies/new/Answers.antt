use Rattle.wit_copies.proofs.Rising.{put_behind}
use Rattle.wit_copies.proofs.copies.Copies.new.Goals as goal

pub loop-id-preserved : goal.loop-id-preserved
loop-id-preserved c = put_behind c.args.ids.now c.loop-id.places.keys c.insert.new.self.keys c.loop-id.id-index c.id-item.result c.index.result c.requires.rising c.loop-id-test.true c.loop-id.invariant c.id-item.is c.index.ensures c.in_ok-insert.ensures.keys
