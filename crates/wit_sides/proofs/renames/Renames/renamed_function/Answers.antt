use Rattle.std.proofs.Common.{◌≡◌, ◌∷◌, ◌++◌, arith, String}
use Rattle.std.specs.Prelude.{string_bytes}
use Rattle.std.specs.declared.alloc.Global.{Global}
use Rattle.std.proofs.lemmas.Result.{IfOk-weaker}
use Rattle.wit_sides.specs.Renames.{of_resource, of_none}
use Rattle.wit_sides.proofs.Dots.{no_dot, no_dot_before, split_at_dot}
use Rattle.wit_sides.proofs.renames.Renames.renamed_function.Goals as goal

pub returns-in-Some : goal.returns-in-Some
returns-in-Some c =
    let cut = c.in-Some.ensures.byte (omega arith) (λ w o h. h) in
    let name = c.args.name.now in
    let resource = c.in-Some.resource.now in
    let item = c.in-Some.item.now in
    let parts : name ≡ resource ++ 46 ∷ item = split_at_dot name resource item cut.2 cut.0 cut.1 in
    IfOk-weaker c.format.result (λ (s : String Global). string_bytes s ≡ c.args.mark.now ++ (c.through-resource.result.now ++ 46 ∷ item)) _ (λ s is. rw (is, parts, c.through-resource.ensures) (of_resource resource item (no_dot_before name resource cut.0))) c.format.ensures.ok

pub returns-in-None : goal.returns-in-None
returns-in-None c =
    IfOk-weaker c.format-in-None.result _ _ (λ s is. rw is (of_none c.args.name.now (no_dot c.args.name.now (c.in-None.ensures.byte (omega arith) (λ w o h. h))))) c.format-in-None.ensures.ok
