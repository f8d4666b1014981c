use Rattle.std.proofs.Common.{rules, Vec, Global}
use Rattle.wasm_bodies.specs.declared.generated.StartStep.{StartStep}
use Rattle.generated_modules.proofs.Owning.{start_does, no_value}
use Rattle.generated_modules.proofs.module.body_of.Goals as goal

pub returns-in-None-clause-only : goal.returns-in-None-clause-only
returns-in-None-clause-only c b h =
    let found = start_does c.args.starts c.args.parameters c.args.instructions.now b (search rules) h in
    absurd (no_value (λ (v : Vec StartStep Global). v.items) c.in_ok-steps.field-0 found.0 c.in-None.is (c.in_ok-steps.ensures.only found.0 found.1))
