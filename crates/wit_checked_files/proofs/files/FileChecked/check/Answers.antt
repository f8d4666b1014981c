use Rattle.std.proofs.Common.{List, map, ap, ◌∙◌, subst}
use Rattle.wit_words.specs.Slice.{Slice}
use Rattle.wit_rules.specs.Breaks.{IsKept, NamesBreak}
use Rattle.wit_rules.specs.View as seen
use Rattle.wit_scopes.proofs.Outcomes.{on_ok}
use Rattle.wit_checked_files.proofs.files.FileChecked.check.Goals as goal

pub returns-clause-ok : goal.returns-clause-ok
returns-clause-ok c = on_ok c.check_names.result (subst (λ (ns : List Slice). IsKept (NamesBreak ns)) (ap (map seen.label) c.as_slice.ensures ∙ c.in_ok-names.ensures)) c.check_names.ensures.ok
