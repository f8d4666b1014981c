use Rattle.std.proofs.Common.{◌≡◌, ℕ, ◌<◌, ◌≤◌, ◌+◌, take}
use Rattle.wit_features.specs.Passed.wit_types-declared-interface-TypeDef.{TypeDef}
use Rattle.wit_moves.specs.Plan as spec
use Rattle.wit_moves.specs.View as seen
use Rattle.wit_moves.proofs.plan.type_places.Given as goal

abbrev pub invariant-loop-def : goal.invariant-loop-def
invariant-loop-def l = record {
  so_far : record { places = l.places; next = l.next } ≡ spec.with_types l.features (seen.owners l.owners) (record { places = l.fn.others; next = l.base }) (take l.def-index l.defs);
  few : l.next ≤ l.base + l.def-index;
  kept : (k : ℕ) (d : TypeDef) → k < l.def-index → spec.BreaksAt l.features (seen.owners l.owners) (record { places = l.fn.others; next = l.base }) l.defs k d → ⊥;
}
