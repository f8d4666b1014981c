use Rattle.std.proofs.Common.{ℕ, ◌<◌}
use Rattle.std.specs.Cow.{cow_str_bytes}
use Rattle.wit_core_names.specs.Texts.{known}
use Rattle.wit_core_items.specs.Growing.{Name, Reads, name_eq}
use Rattle.wit_core_items.specs.World.{ExportStandsFor}
use Rattle.wit_core_items.proofs.export_names.export_names.Given as goal

abbrev pub invariant-loop-place : goal.invariant-loop-place
invariant-loop-place l = Reads name_eq (λ (q : Name) (i : ℕ). (i < l.place) × ExportStandsFor (known l.tables) l.world l.legacy (cow_str_bytes q) i) l.names
