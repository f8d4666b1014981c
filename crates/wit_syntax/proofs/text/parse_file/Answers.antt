use Rattle.std.proofs.Common.{◌+◌, length}
use Rattle.std.proofs.lemmas.Result.{err_from_is_err_and}
use Rattle.wit_syntax.specs.AstView as view
use Rattle.wit_syntax.specs.FileGrammar.{file}
use Rattle.wit_productions.specs.Passed.wit_words-Token.{toks}
use Rattle.wit_productions.specs.WholeText.{GivesTree}
use Rattle.wit_productions.proofs.TreeBreaks.{broken_tree}
use Rattle.wit_syntax.proofs.FileLaws.{file_law}
use Rattle.wit_syntax.proofs.FileBreaks.{file_tells}
use Rattle.wit_productions.proofs.Texts.{lex_refuses, text_tree, text_answers, text_cause}
use Rattle.wit_syntax.proofs.Wholes.{file_whole}
use Rattle.wit_syntax.proofs.text.parse_file.Goals as goal

pub returns-in_err-tokens-clause-only : goal.returns-in_err-tokens-clause-only
returns-in_err-tokens-clause-only c =
    let p = err_from_is_err_and c.from_residual.result c.from_residual.ensures.1 in
    λ d t. rw (p.1, p.2) (lex_refuses view.file t.tokens d c.in_err-tokens.field-0.0 (c.in_err-tokens.ensures.only t.tokens t.lexes t.small))

pub returns-clause-found : goal.returns-clause-found
returns-clause-found c =
    let k = c.in_ok-tokens.ensures in
    let g : GivesTree view.file file (c.args.offset + length c.args.text.now) (toks c.in_ok-tokens.tokens.items) c.file_of.result = (rw (c.deref.ensures.value, c.end_of.ensures) at (c.file_of.ensures)) in
    text_tree file file_law c.args.offset c.args.text.now view.file (toks c.in_ok-tokens.tokens.items) k.found file_whole k.within c.file_of.result g

pub returns-clause-only : goal.returns-clause-only
returns-clause-only c =
    let k = c.in_ok-tokens.ensures in
    let g : GivesTree view.file file (c.args.offset + length c.args.text.now) (toks c.in_ok-tokens.tokens.items) c.file_of.result = (rw (c.deref.ensures.value, c.end_of.ensures) at (c.file_of.ensures)) in
    λ d t. text_answers file file_law c.args.offset c.args.text.now view.file (toks c.in_ok-tokens.tokens.items) k.found c.file_of.result d g t

pub returns-clause-cause : goal.returns-clause-cause
returns-clause-cause c =
    let k = c.in_ok-tokens.ensures in
    let g : GivesTree view.file file (c.args.offset + length c.args.text.now) (toks c.in_ok-tokens.tokens.items) c.file_of.result = (rw (c.deref.ensures.value, c.end_of.ensures) at (c.file_of.ensures)) in
    text_cause file file_law c.args.offset c.args.text.now view.file (toks c.in_ok-tokens.tokens.items) k.found (λ e read. broken_tree file file_law file_tells c.args.offset c.args.text.now (toks c.in_ok-tokens.tokens.items) e k.found read) c.file_of.result g
