use Rattle.std.proofs.Common.{ap, ◌∙◌}
use Rattle.wit_component.specs.CoreNames.{standard_export}
use Rattle.wit_component.specs.Candidates.{candidates, joined}
use Rattle.wit_component.proofs.table.named_by.Goals as goal

pub returns : goal.returns
returns c =
    let look = candidates c.args.texts.now in
    let same = c.copied-found.ensures ∙ c.get.ensures.value ∙ ap look (c.as_str.ensures.value ∙ c.in_ok-standard.ensures) in
    rw c.if-rejects_legacy.false
    (c.joined.ensures ∙ ap (λ o. joined o c.copied.result) same ∙ ap (λ o. joined (look (standard_export c.args.name.now)) o) (c.copied.ensures ∙ c.get-2.ensures.value))
