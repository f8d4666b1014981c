use Rattle.std.proofs.Common.{◌≡◌, ℕ, List, ◌++◌, ◌∙◌, ap, sym, String}
use Rattle.std.specs.Prelude.{string_bytes, codes}
use Rattle.std.specs.declared.alloc.Global.{Global}
use Rattle.std.proofs.lemmas.Result.{IfOk-weaker}
use Rattle.wit_sides.specs.Renames.{constructor_of, method_of, static_of, plain}
use Rattle.wit_sides.proofs.renames.Renames.renamed.Goals as goal

pub returns-in-Some : goal.returns-in-Some
returns-in-Some c =
    let cut : c.args.name.now ≡ codes "[constructor]" ++ c.in-Some.resource.now = c.in-Some.ensures.cases.1.1 ∙ ap (λ (b : List ℕ). codes "[constructor]" ++ b) (sym c.in-Some.ensures.cases.2) in
    IfOk-weaker c.format.result (λ (s : String Global). string_bytes s ≡ codes "[constructor]" ++ c.through-resource.result.now) _ (λ s is. rw (is, cut, c.through-resource.ensures) (constructor_of c.in-Some.resource.now)) c.format.ensures.ok

pub returns-in-Some-strip_prefix : goal.returns-in-Some-strip_prefix
returns-in-Some-strip_prefix c =
    let cut : c.args.name.now ≡ codes "[method]" ++ c.in-Some-strip_prefix.function.now = c.in-Some-strip_prefix.ensures.cases.1.1 ∙ ap (λ (b : List ℕ). codes "[method]" ++ b) (sym c.in-Some-strip_prefix.ensures.cases.2) in
    IfOk-weaker c.renamed_function.result _ _ (λ s is. rw cut (method_of c.in-Some-strip_prefix.function.now _ is)) c.renamed_function.ensures

pub returns-in-Some-strip_prefix-2 : goal.returns-in-Some-strip_prefix-2
returns-in-Some-strip_prefix-2 c =
    let cut : c.args.name.now ≡ codes "[static]" ++ c.in-Some-strip_prefix-2.function.now = c.in-Some-strip_prefix-2.ensures.cases.1.1 ∙ ap (λ (b : List ℕ). codes "[static]" ++ b) (sym c.in-Some-strip_prefix-2.ensures.cases.2) in
    IfOk-weaker c.renamed_function-in-Some-strip_prefix-2.result _ _ (λ s is. rw cut (static_of c.in-Some-strip_prefix-2.function.now _ is)) c.renamed_function-in-Some-strip_prefix-2.ensures

pub returns : goal.returns
returns c =
    IfOk-weaker c.from_str.result (λ (s : String Global). string_bytes s ≡ c.through.result.now) _ (λ s is. rw (is, c.through.ensures) (plain c.args.name.now c.in_default.ensures.cases c.in_default-strip_prefix.ensures.cases c.in_default-strip_prefix-2.ensures.cases)) c.from_str.ensures.ok
