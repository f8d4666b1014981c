use Rattle.std.proofs.Common.{◌≡◌, ◌++◌, map, subst, List}
use Rattle.std.specs.Prelude.{OnOk}
use Rattle.wit_words.specs.Slice.{Slice}
use Rattle.wit_syntax.specs.AstView as view
use Rattle.wit_rules.specs.View as seen
use Rattle.wit_checked_files.proofs.Named.{viewed_names}
use Rattle.wit_checked_files.proofs.labels.add_params.Goals as goal

pub returns : goal.returns
returns c = subst (λ (ns : List Slice). OnOk c.add_names.result (map seen.label c.add_names.new.found.items ≡ map seen.label c.args.found.now.items ++ ns)) (viewed_names view.param (λ p. p.name) c.args.params.now) c.add_names.ensures
