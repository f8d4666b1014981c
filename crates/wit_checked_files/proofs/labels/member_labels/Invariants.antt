use Rattle.std.proofs.Common.{◌≡◌, map, take}
use Rattle.wit_scopes.specs.View as scope_view
use Rattle.wit_rules.specs.Labels.{member_label}
use Rattle.wit_rules.specs.View as seen
use Rattle.wit_checked_files.proofs.labels.member_labels.Given as goal

abbrev pub invariant-loop-member : goal.invariant-loop-member
invariant-loop-member l = map seen.label l.found.items ≡ map member_label (scope_view.members (take l.member-index l.members))
