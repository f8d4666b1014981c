use Rattle.std.proofs.Common.{◌≡◌, map, take}
use Rattle.std.specs.Prelude.{flat_map}
use Rattle.wit_scopes.specs.View as scope_view
use Rattle.wit_rules.specs.Labels.{side_labels, side_paths}
use Rattle.wit_rules.specs.View as seen
use Rattle.wit_checked_files.proofs.worlds.check_side.Given as goal

abbrev pub invariant-loop-member : goal.invariant-loop-member
invariant-loop-member l = record {
  labels : map seen.label l.labels.items ≡ flat_map (side_labels l.side) (map scope_view.world_member (take l.member-index l.members));
  paths : map seen.label l.paths.items ≡ flat_map (side_paths l.side) (map scope_view.world_member (take l.member-index l.members));
}
