use Rattle.std.proofs.Common.{◌∙◌, subst}
use Rattle.std.proofs.lemmas.List.{map-id}
use Rattle.binary_grammar.specs.Syntax.{IsTyped, vec}
use Rattle.wasm_types.specs.Types.{func_type, val_type}
use Rattle.wasm_types.proofs.types.FuncTypePart.put.Goals as goal

pub returns-clause-typed : goal.returns-clause-typed
unfolding func_type
returns-clause-typed c =
    let params = subst (IsTyped (vec val_type)) (map-id c.deref.result.now ∙ c.deref.ensures.value) c.in_ok-put_vec.ensures.typed in
    let results = subst (IsTyped (vec val_type)) (map-id c.deref-2.result.now ∙ c.deref-2.ensures.value) c.in_ok-put_vec-2.ensures.typed in
    (tt, (params, (results, tt)))
