use Rattle.std.proofs.Common.{◌≡◌, ◌+◌, drop, map}
use Rattle.std.specs.List.{find}
use Rattle.wit_words.specs.Sources.{source_text, total, lies_in, placed}
use Rattle.wit_words.proofs.source_map.SourceMap.render_location.Given as goal

-- the text begins where the others with those still to come would end, and what is looked for is there still
abbrev pub invariant-loop-source : goal.invariant-loop-source
invariant-loop-source l = (l.offset + total (map source_text (drop l.source-index l.source-items)) ≡ l.self-inside.«end»)
    × (find (lies_in l.span) (placed l.offset (map source_text (drop l.source-index l.source-items))) ≡ find (lies_in l.span) (placed 0 (map source_text l.source-items)))
