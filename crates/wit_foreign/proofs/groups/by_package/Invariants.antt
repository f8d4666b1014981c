use Rattle.std.proofs.Common.{◌≡◌, map, take}
use Rattle.wit_foreign.specs.View as seen
use Rattle.wit_foreign.specs.GroupView as parts
use Rattle.wit_foreign.specs.Groups.{AreGroups, package_key}
use Rattle.wit_foreign.proofs.groups.by_package.Given as goal

abbrev pub invariant-loop-need : goal.invariant-loop-need
invariant-loop-need l = AreGroups package_key (seen.needs (take l.need-index l.needs)) (seen.needs l.firsts.items) (parts.rows l.rows.items) × (map parts.path_text l.packages.keys ≡ map package_key (seen.needs l.firsts.items))
