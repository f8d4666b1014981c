use Rattle.std.proofs.Common.{List, map, arith}
use Rattle.std.proofs.lemmas.List.{at_drop_more}
use Rattle.wit_words.specs.declared.source_map.Source.{Source}
use Rattle.wit_words.specs.Sources.{source_text, total}
use Rattle.wit_words.proofs.source_map.SourceMap.render_location.Goals as goal

pub overflow_add-offset : goal.overflow_add-offset
overflow_add-offset c =
    let l = c.loop-source in
    omega (arith, l.invariant.0, c.self.invariant, at_drop_more (λ (ss : List Source). total (map source_text ss)) c.deref-source-items.result.now l.source-index c.source-item.result c.loop-source-test.true, c.len-offset.ensures)
