use Rattle.std.proofs.Common.{ap, ◌∙◌, flat_map}
use Rattle.wit_plans.specs.declared.moves.MovedWorld.{MovedWorld}
use Rattle.wit_plans.specs.Checks.{Standing}
use Rattle.wit_plans.specs.Moves.{moved_include}
use Rattle.wit_plans.proofs.moves.put_lists.Goals as goal

pub returns : goal.returns
returns c =
    let sides = c.in_ok-put_sides.ensures in
    let includes = c.in_ok-moved.field-0 in (
      sides.0,
      sides.1,
      c.in_ok-moved.ensures ∙ ap (λ (s : Standing). flat_map (moved_include c.args.features.now s.worlds) c.args.includes.items) c.standing.view_is,
      ap (λ (m : MovedWorld). record m { includes = includes }) sides.2,
    )
