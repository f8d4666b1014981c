use Rattle.std.proofs.Common.{◌≡◌, ◌++◌, map}
use Rattle.wit_words.specs.Sources.{paths_left, paths_of}
use Rattle.wit_resolution.proofs.sources.add_names.Given as goal

abbrev pub invariant-loop-name : goal.invariant-loop-name
invariant-loop-name l = map (λ n. n.now) l.names.items ++ paths_left l.name-iterator ≡ map (λ n. n.now) l.fn.names.items ++ paths_of l.source_map
