use Rattle.std.proofs.Common.{◌≡◌, ◌++◌, map, flat_map, take}
use Rattle.generated_sections.specs.Types.{import_value, slot_type}
use Rattle.generated_modules.specs.Parts.{global_in}
use Rattle.generated_modules.proofs.parts.global_space.Given as goal

abbrev pub invariant-loop-import : goal.invariant-loop-import
invariant-loop-import l = l.space.items ≡ flat_map (λ i. global_in i.ty) (map import_value (take l.import-index l.imports))

abbrev pub invariant-loop-global : goal.invariant-loop-global
invariant-loop-global l = l.space.items ≡ flat_map (λ i. global_in i.ty) (map import_value l.imports) ++ map slot_type (take l.global-index l.globals)
