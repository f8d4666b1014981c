use Rattle.std.proofs.Common.{◌≡◌, ◌∙◌, [], ap, subst}
use Rattle.std.proofs.lemmas.Result.{IfOk-weaker}
use Rattle.std.specs.List.{IsDistinct}
use Rattle.std.specs.Map.{keys_of}
use Rattle.indexmap.specs.IndexMap.{insert_all}
use Rattle.wit_reach.specs.Passed.wit_types-WorldKey.{key_eq}
use Rattle.wit_elaborated.specs.Elaborated as spec
use Rattle.wit_elaborated.proofs.Elaborating.{elaborates}
use Rattle.wit_elaborated.proofs.imports.elaborated_imports.Goals as goal

pub returns : goal.returns
returns c =
    let es = c.args.imports.entries in
    let interfaces = c.args.interfaces.now in
    IfOk-weaker c.put_behind.result
    (λ found. found.entries ≡ insert_all key_eq (insert_all key_eq [] c.in_ok-first.first.items) es)
    (λ found. found.entries ≡ spec.elaborated interfaces c.args.order.now es)
    (λ found e. e
    ∙ ap (λ first. insert_all key_eq (insert_all key_eq [] first) es) c.in_ok-first.ensures
    ∙ elaborates (spec.implied interfaces) c.args.order.now es c.requires.rising c.requires.listed (subst (λ m. IsDistinct key_eq (keys_of m.entries)) c.imports.view_is c.imports.invariant.0))
    c.put_behind.ensures
