use Rattle.std.proofs.Common.{arith}
use Rattle.wit_words.proofs.Sources.{total_behind}
use Rattle.wit_words.proofs.source_map.SourceMap.append.Goals as goal

pub invariant_of-self-2 : goal.invariant_of-self-2
invariant_of-self-2 c =
    (rw (c.in_ok-append.ensures.items) (omega (arith, c.in-Ok.ensures, c.self.invariant.0, c.other.invariant.0, total_behind c.self.inside.sources.items c.other.inside.sources.items)), omega (arith, c.in-Ok.ensures))
