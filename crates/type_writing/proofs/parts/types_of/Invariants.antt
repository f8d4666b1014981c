use Rattle.std.proofs.Common.{List, Some, map, take}
use Rattle.wit_types.specs.declared.interface.TypeDef.{TypeDef}
use Rattle.type_writing.specs.Writing.{PartsStand}
use Rattle.type_writing.proofs.parts.types_of.Given as goal

abbrev pub invariant-loop-ty : goal.invariant-loop-ty
invariant-loop-ty g l =
    let S = g.S.ValtypeEncoder in
    (defs : List TypeDef) → S.good l.sink defs → PartsStand (S.setting l.sink).label defs (S.space l.sink) (map (λ r. Some r) (take l.ty-index l.types)) (map (λ t. Some t) l.found.items)
