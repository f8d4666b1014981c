use Rattle.std.proofs.Common.{◌∙◌}
use Rattle.wasm_bodies.proofs.Again.{only_body}
use Rattle.wasm_bodies.proofs.generated.GeneratedBody.of_instructions.Goals as goal

pub returns-clause-only : goal.returns-clause-only
returns-clause-only c b h = c.body_at.ensures.value ∙ only_body c.args.parameters c.args.instructions.now b h
