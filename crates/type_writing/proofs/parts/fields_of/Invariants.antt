use Rattle.std.proofs.Common.{◌≡◌, List, Some, map, take}
use Rattle.std.specs.Prelude.{string_bytes}
use Rattle.type_meaning.specs.Passed.component_value_types-Names.{named_value}
use Rattle.type_meaning.specs.Syntax.{names_of}
use Rattle.wit_types.specs.declared.interface.TypeDef.{TypeDef}
use Rattle.type_writing.specs.Writing.{PartsStand}
use Rattle.type_writing.proofs.parts.fields_of.Given as goal

abbrev pub invariant-loop-field : goal.invariant-loop-field
invariant-loop-field g l =
    let S = g.S.ValtypeEncoder in
    record {
      names : names_of (map (named_value (λ t. t)) l.found.items) ≡ map (λ f. string_bytes f.name) (take l.field-index l.fields);
      parts : (types : List TypeDef) → S.good l.sink types → PartsStand (S.setting l.sink).label types (S.space l.sink) (map (λ f. Some f.ty) (take l.field-index l.fields)) (map (λ n. Some n.item) l.found.items);
    }
