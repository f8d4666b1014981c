use Rattle.std.proofs.Common.{take}
use Rattle.wit_resolved_scopes.specs.Each.{Each}
use Rattle.wit_worlds.specs.Worlds.{IsTypeEntry}
use Rattle.wit_worlds.proofs.world.type_entries.Given as goal

abbrev pub invariant-loop-place : goal.invariant-loop-place
invariant-loop-place l = Each (IsTypeEntry l.types) (take l.place l.table) l.entries.items
