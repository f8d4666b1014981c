use Rattle.std.proofs.Common.{◌∷◌, ◌++◌, [], ℕ, List, sym, subst}
use Rattle.wit_words.specs.Sources.{SourceText}
use Rattle.wit_syntax.specs.Ast.{FileTree}
use Rattle.wit_syntax.specs.WholeText.{IsText}
use Rattle.wit_scopes.proofs.Outcomes.{on_ok}
use Rattle.wit_package.specs.Group.{AreRead}
use Rattle.wit_package.specs.GroupView as seen
use Rattle.wit_package.proofs.Reading.{read_more}
use Rattle.wit_package.proofs.group.add_text.Goals as goal

pub returns-in-Ok-clause-read : goal.returns-in-Ok-clause-read
returns-in-Ok-clause-read c =
    let t : SourceText = record { path = c.args.path.now; contents = c.args.text.now } in
    let texts : List SourceText = c.args.map.now in
    let trees : List FileTree = seen.trees c.args.files.now.items in
    let new : List FileTree = seen.trees c.add_tree.new.files.items in
    on_ok c.add_tree.result
    (λ h. subst (λ (ts : List SourceText). AreRead ts new) (sym c.in-Ok.ensures.added)
    (subst (λ (fs : List FileTree). AreRead (texts ++ t ∷ []) fs) (sym h.2)
    (read_more texts trees t h.0 c.requires (subst (λ (n : ℕ). IsText n t.contents h.0) c.in-Ok.ensures.offset h.1)))) c.add_tree.ensures.read
