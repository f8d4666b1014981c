use Rattle.std.proofs.Common.{◌≡◌, [], map, drop}
use Rattle.std.specs.Prelude.{string_bytes}
use Rattle.distinct_names.specs.Names.{all_new}
use Rattle.plain_worlds.proofs.world.are_distinct.Given as goal

abbrev pub invariant-loop-key : goal.invariant-loop-key
invariant-loop-key l = all_new l.seen (map string_bytes (drop l.key-index l.keys)) ≡ all_new [] (map string_bytes l.keys)
