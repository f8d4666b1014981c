use Rattle.std.proofs.Common.{map}
use Rattle.wasm_types.specs.Entries.{export_value}
use Rattle.core_links.proofs.Found.{reads_none, reads_more, reads_whole}
use Rattle.core_links.proofs.exports.places_of.Goals as goal

pub loop-place-init : goal.loop-place-init
loop-place-init c = reads_none (map export_value c.args.exports.now) c.new-places.result c.new-places.ensures

pub loop-place-preserved : goal.loop-place-preserved
loop-place-preserved c = reads_more c.args.exports.now c.loop-place.place _ c.loop-place-test.true c.loop-place.places c.add.new.self c.loop-place.invariant c.in_ok-add.ensures.ok

pub returns : goal.returns
returns c = reads_whole c.args.exports.now c.loop-place.place c.loop-place.places c.loop-place-test.false c.loop-place.invariant
