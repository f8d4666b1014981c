use Rattle.std.proofs.Common.{◌≡◌, ◌++◌, map, flat_map, drop}
use Rattle.wit_words.specs.Sources.{paths_of}
use Rattle.wit_resolution.specs.Sources as spec
use Rattle.wit_resolution.proofs.sources.PackageSources.source_names.Given as goal

abbrev pub invariant-loop-source_map : goal.invariant-loop-source_map
invariant-loop-source_map l = map (λ n. n.now) l.names.items ++ flat_map paths_of (drop l.source_map-index l.source_map-items) ≡ spec.all_names l.self
