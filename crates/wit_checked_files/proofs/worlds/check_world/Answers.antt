use Rattle.std.proofs.Common.{map}
use Rattle.wit_scopes.specs.View as scope_view
use Rattle.wit_rules.specs.Facts.{WorldMemberBreaks}
use Rattle.wit_rules.proofs.Breaking.{viewed_kept}
use Rattle.wit_scopes.proofs.Outcomes.{on_ok}
use Rattle.wit_checked_files.proofs.Kept.{world_kept}
use Rattle.wit_checked_files.proofs.worlds.check_world.Goals as goal

pub returns-clause-ok : goal.returns-clause-ok
returns-clause-ok c =
    on_ok c.check_side-2.result
    (world_kept (map scope_view.world_member c.args.members.now) (viewed_kept WorldMemberBreaks scope_view.world_member c.args.members.now c.in_ok-check_all.ensures.ok) c.in_ok-check_side.ensures.ok)
    c.check_side-2.ensures.ok
