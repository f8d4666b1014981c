use Rattle.std.proofs.Common.{◌≡◌, [], map, drop}
use Rattle.std.specs.Prelude.{string_bytes}
use Rattle.distinct_names.specs.Names.{all_new}
use Rattle.linked_components.proofs.tracks.are_distinct.Given as goal

abbrev pub invariant-loop-text : goal.invariant-loop-text
invariant-loop-text l = all_new l.seen (map string_bytes (drop l.text-index l.texts)) ≡ all_new [] (map string_bytes l.texts)
