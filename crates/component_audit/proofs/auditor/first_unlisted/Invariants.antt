use Rattle.std.proofs.Common.{◌≡◌, map, true}
use Rattle.std.specs.Prelude.{nat_le}
use Rattle.plain_worlds.specs.World.{function_item}
use Rattle.component_audit.specs.SpacesView.{import_entry}
use Rattle.component_audit.specs.Tests.{is_listed}
use Rattle.component_audit.proofs.Searching.{Going}
use Rattle.component_audit.proofs.auditor.first_unlisted.Given as goal

abbrev pub invariant-loop-entry : goal.invariant-loop-entry
invariant-loop-entry l = Going import_entry (λ n e. nat_le e.offset n) (λ e. is_listed (map function_item l.listed.functions.now) e ≡ true) l.entries l.entry-index
