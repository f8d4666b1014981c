use Rattle.std.proofs.Common.{◌≡◌, List, Some, map, take}
use Rattle.std.specs.Prelude.{string_bytes}
use Rattle.type_meaning.specs.Passed.component_value_types-Names.{named_value}
use Rattle.type_meaning.specs.Syntax.{names_of}
use Rattle.wit_types.specs.declared.interface.TypeDef.{TypeDef}
use Rattle.type_writing.specs.Writing.{PartsStand}
use Rattle.type_writing.proofs.functions.params_of.Given as goal

abbrev pub invariant-loop-param : goal.invariant-loop-param
invariant-loop-param g l =
    let S = g.S.ValtypeEncoder in
    record {
      names : names_of (map (named_value (λ t. t)) l.found.items) ≡ map (λ p. string_bytes p.name) (take l.param-index l.params);
      parts : (types : List TypeDef) → S.good l.sink types → PartsStand (S.setting l.sink).label types (S.space l.sink) (map (λ p. Some p.ty) (take l.param-index l.params)) (map (λ n. Some n.item) l.found.items);
    }
