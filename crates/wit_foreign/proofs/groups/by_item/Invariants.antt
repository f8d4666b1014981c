use Rattle.std.proofs.Common.{◌≡◌, map, take}
use Rattle.wit_foreign.specs.View as seen
use Rattle.wit_foreign.specs.GroupView as parts
use Rattle.wit_foreign.specs.Groups.{AreGroups, item_key}
use Rattle.wit_foreign.proofs.groups.by_item.Given as goal

abbrev pub invariant-loop-need : goal.invariant-loop-need
invariant-loop-need l = AreGroups item_key (seen.needs (take l.need-index l.needs)) (seen.needs l.firsts.items) (parts.rows l.rows.items) × (l.names ≡ map item_key (seen.needs l.firsts.items))
