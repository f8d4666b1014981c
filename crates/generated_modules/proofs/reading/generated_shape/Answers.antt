use Rattle.std.proofs.Common.{subst, map}
use Rattle.binary_grammar.specs.declared.fault.ReadError.{ReadError}
use Rattle.binary_grammar.specs.Fault.{Fails}
use Rattle.binary_grammar.specs.Syntax.{meaning}
use Rattle.binary_grammar.proofs.Lawful.{lawful}
use Rattle.wasm_sections.specs.Module.{nothing}
use Rattle.generated_sections.specs.Sections.{section_value, file}
use Rattle.generated_modules.specs.Parts.{parts_value}
use Rattle.generated_modules.specs.Shape.{shape_value}
use Rattle.generated_modules.proofs.Owning.{not_both}
use Rattle.generated_modules.proofs.Gathering.{found_all, parts_are}
use Rattle.generated_modules.proofs.reading.generated_shape.Goals as goal

pub returns-in_ok-parts_of-in-Ok-clause-found : goal.returns-in_ok-parts_of-in-Ok-clause-found
returns-in_ok-parts_of-in-Ok-clause-found c =
    found_all c.args.bytes.now (map section_value c.in-Ok.sections.items) (parts_value c.in_ok-parts_of-in-Ok.field-0) c.in-Ok.ensures c.in_ok-parts_of-in-Ok.ensures shape_value c.module_of.result c.module_of.ensures.found

pub returns-in_ok-parts_of-in-Ok-clause-only : goal.returns-in_ok-parts_of-in-Ok-clause-only
returns-in_ok-parts_of-in-Ok-clause-only c s h =
    c.module_of.ensures.only s (parts_are c.args.bytes.now (map section_value c.in-Ok.sections.items) (parts_value c.in_ok-parts_of-in-Ok.field-0) c.in-Ok.ensures c.in_ok-parts_of-in-Ok.ensures s h)

pub returns-in-Err-Malformed-clause-only : goal.returns-in-Err-Malformed-clause-only
returns-in-Err-Malformed-clause-only c s h =
    absurd (not_both ((meaning file nothing).read c.args.bytes.now) h.sections c.in-Err-Malformed.field-0-0 ((lawful file nothing).again c.args.bytes.now h.sections h.are)
    (subst (λ (e : ReadError). Fails e ((meaning file nothing).read c.args.bytes.now)) c.in-Err-Malformed.field-0-is c.in-Err-Malformed.ensures))
