use Rattle.std.proofs.Common.{sym, ◌∙◌}
use Rattle.wit_reach.proofs.Used.{target_has}
use Rattle.wit_reach.proofs.deps.dep_of.Goals as goal

pub get-requires : goal.get-requires
get-requires c = c.requires c.in-Some.target (target_has c.args.def.now.kind c.in-Some.target (sym c.alias_target.ensures ∙ c.in-Some.is))
