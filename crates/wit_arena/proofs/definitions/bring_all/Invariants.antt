use Rattle.std.proofs.Common.{◌≡◌, map, take}
use Rattle.wit_arena.proofs.Rows.{GoesOn}
use Rattle.wit_arena.proofs.definitions.bring_all.Given as goal

abbrev pub invariant-loop-item : goal.invariant-loop-item
invariant-loop-item g l = record {
  labels : map g.T.Part.label l.found.items ≡ map g.T.Part.source_label (take l.item-index l.items);
  types : GoesOn g.T.Part.source_part l.table l.fn.types l.items l.types (map g.T.Part.part l.found.items) l.item-index;
}
