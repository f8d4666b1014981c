use Rattle.std.proofs.Common.{◌≡◌, map, drop}
use Rattle.std.specs.List.{list_any}
use Rattle.plain_worlds.specs.World.{FunctionItem, function_item}
use Rattle.wit_component.specs.Candidates.{candidates, has_post_return}
use Rattle.wit_component.proofs.table.is_still_to_come.Given as goal

abbrev pub invariant-loop-function : goal.invariant-loop-function
invariant-loop-function l =
    list_any (λ (f : FunctionItem). has_post_return l.linking.rejects_legacy (candidates l.texts) f.name) (map function_item (drop l.function-index l.linking.world.now.exports.items))
    ≡ list_any (λ (f : FunctionItem). has_post_return l.linking.rejects_legacy (candidates l.texts) f.name) (map function_item l.linking.world.now.exports.items)
