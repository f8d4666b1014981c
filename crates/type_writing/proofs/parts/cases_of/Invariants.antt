use Rattle.std.proofs.Common.{◌≡◌, List, map, take}
use Rattle.std.specs.Prelude.{string_bytes}
use Rattle.type_meaning.specs.Passed.component_value_types-Names.{named_value}
use Rattle.type_meaning.specs.Passed.component_value_types-Types.{case_value}
use Rattle.type_meaning.specs.Syntax.{names_of}
use Rattle.wit_types.specs.declared.interface.TypeDef.{TypeDef}
use Rattle.type_writing.specs.Writing.{PartsStand}
use Rattle.type_writing.proofs.parts.cases_of.Given as goal

abbrev pub invariant-loop-case : goal.invariant-loop-case
invariant-loop-case g l =
    let S = g.S.ValtypeEncoder in
    record {
      names : names_of (map (named_value case_value) l.found.items) ≡ map (λ c. string_bytes c.name) (take l.case-index l.cases);
      parts : (types : List TypeDef) → S.good l.sink types → PartsStand (S.setting l.sink).label types (S.space l.sink) (map (λ c. c.ty) (take l.case-index l.cases)) (map (λ n. case_value n.item) l.found.items);
    }
