-- Types that are asked for and remembered may be taken.
use Rattle.std.proofs.Common.{length, arith, ◌<◌}
use Rattle.wit_reach.proofs.Holding.{got}
use Rattle.linked_worlds.specs.Ready.{RememberedMayBeTaken}

pub remembered_taken : RememberedMayBeTaken
remembered_taken r types others linked needed owners are homes j id d x belongs asked at called =
    let within : j < length linked = owners id j belongs.0 belongs.1 belongs.2 in
    let size = are.size in
    let fs = got linked j within in
    let ids = got needed j (omega (arith, within, size)) in
    homes j ids.0 fs.0 id d x ids.1 fs.1 ((are.needed j ids.0 ids.1 id).1 (belongs, asked)) at called
