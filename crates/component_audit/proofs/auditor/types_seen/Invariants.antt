use Rattle.std.proofs.Common.{◌≡◌, ℕ, map, take}
use Rattle.std.specs.Prelude.{nat_le}
use Rattle.std.specs.List.{list_all}
use Rattle.wit_component.specs.Right.{type_seen}
use Rattle.component_audit.specs.SpacesView.{import_entry, export_entry}
use Rattle.component_audit.proofs.auditor.types_seen.Given as goal

abbrev pub invariant-loop-entry : goal.invariant-loop-entry
invariant-loop-entry l =
    (map import_entry l.found.items ≡ map type_seen (map export_entry (take l.entry-index l.entries)))
    × ((n : ℕ) → list_all (λ e. nat_le e.offset n) l.found.items ≡ list_all (λ e. nat_le e.offset n) (take l.entry-index l.entries))
