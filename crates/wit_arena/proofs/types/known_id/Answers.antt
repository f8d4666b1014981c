use Rattle.std.proofs.Common.{◌∙◌}
use Rattle.wit_arena.specs.Shape.{shape_eq}
use Rattle.wit_arena.proofs.types.known_id.Goals as goal

pub returns : goal.returns
unfolding shape_eq
returns c = c.copied.ensures ∙ c.get.ensures.value
