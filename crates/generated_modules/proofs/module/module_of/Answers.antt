use Rattle.std.proofs.Common.{◌∙◌, sym, Vec, Global, map}
use Rattle.wasm_bodies.specs.declared.generated.GeneratedBody.{GeneratedBody}
use Rattle.wasm_bodies.specs.Generated.{body_shape}
use Rattle.generated_modules.specs.Parts.{parts_value}
use Rattle.generated_modules.proofs.Owning.{value_is, other_shape}
use Rattle.generated_modules.proofs.module.module_of.Goals as goal

pub returns-clause-only : goal.returns-clause-only
returns-clause-only c s h =
    let same = value_is (λ (v : Vec GeneratedBody Global). map body_shape v.items) c.in_ok-bodies.field-0 c.in-Some.bodies s.bodies c.in-Some.is (c.in_ok-bodies.ensures.only s.bodies h.bodies) in
    absurd (other_shape (parts_value c.args.parts) (map body_shape c.in-Some.bodies.items) s same h (sym c.in_ok-hangs_together.ensures ∙ c.if-branch.false))
