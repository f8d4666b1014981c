use Rattle.std.proofs.Common.{ℕ, ◌<◌}
use Rattle.std.specs.Cow.{cow_str_bytes}
use Rattle.wit_core_names.specs.Texts.{known}
use Rattle.wit_core_items.specs.Growing.{Pair, Reads, pair_eq}
use Rattle.wit_core_items.specs.World.{ImportStandsFor}
use Rattle.wit_core_items.proofs.import_names.import_names.Given as goal

abbrev pub invariant-loop-place : goal.invariant-loop-place
invariant-loop-place l = Reads pair_eq (λ (q : Pair) (i : ℕ). (i < l.place) × ImportStandsFor (known l.tables) l.world l.legacy (cow_str_bytes q.0) (cow_str_bytes q.1) i) l.names
