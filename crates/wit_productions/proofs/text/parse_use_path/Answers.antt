use Rattle.std.proofs.Common.{◌+◌, length}
use Rattle.std.proofs.lemmas.Result.{err_from_is_err_and}
use Rattle.wit_productions.specs.NameView.{use_path}
use Rattle.wit_productions.specs.NameGrammar.{whole_use_path}
use Rattle.wit_tokens.specs.Passed.wit_words-Token.{toks}
use Rattle.wit_productions.specs.WholeText.{GivesTree}
use Rattle.wit_productions.proofs.TreeBreaks.{broken_tree}
use Rattle.wit_productions.proofs.NameLaws.{whole_use_path_law}
use Rattle.wit_productions.proofs.NameBreaks.{whole_use_path_tells}
use Rattle.wit_productions.proofs.Texts.{lex_refuses, text_tree, text_answers, text_cause}
use Rattle.wit_productions.proofs.Wholes.{whole_use_path_whole}
use Rattle.wit_productions.proofs.text.parse_use_path.Goals as goal

pub returns-in_err-tokens-clause-only : goal.returns-in_err-tokens-clause-only
returns-in_err-tokens-clause-only c =
    let p = err_from_is_err_and c.from_residual.result c.from_residual.ensures.1 in
    λ d t. rw (p.1, p.2) (lex_refuses use_path t.tokens d c.in_err-tokens.field-0.0 (c.in_err-tokens.ensures.only t.tokens t.lexes t.small))

pub returns-clause-found : goal.returns-clause-found
returns-clause-found c =
    let k = c.in_ok-tokens.ensures in
    let g : GivesTree use_path whole_use_path (0 + length c.args.text.now) (toks c.in_ok-tokens.tokens.items) c.use_path_of.result = (rw (c.deref.ensures.value, c.end_of.ensures) at (c.use_path_of.ensures)) in
    text_tree whole_use_path whole_use_path_law 0 c.args.text.now use_path (toks c.in_ok-tokens.tokens.items) k.found whole_use_path_whole k.within c.use_path_of.result g

pub returns-clause-only : goal.returns-clause-only
returns-clause-only c =
    let k = c.in_ok-tokens.ensures in
    let g : GivesTree use_path whole_use_path (0 + length c.args.text.now) (toks c.in_ok-tokens.tokens.items) c.use_path_of.result = (rw (c.deref.ensures.value, c.end_of.ensures) at (c.use_path_of.ensures)) in
    λ d t. text_answers whole_use_path whole_use_path_law 0 c.args.text.now use_path (toks c.in_ok-tokens.tokens.items) k.found c.use_path_of.result d g t

pub returns-clause-cause : goal.returns-clause-cause
returns-clause-cause c =
    let k = c.in_ok-tokens.ensures in
    let g : GivesTree use_path whole_use_path (0 + length c.args.text.now) (toks c.in_ok-tokens.tokens.items) c.use_path_of.result = (rw (c.deref.ensures.value, c.end_of.ensures) at (c.use_path_of.ensures)) in
    text_cause whole_use_path whole_use_path_law 0 c.args.text.now use_path (toks c.in_ok-tokens.tokens.items) k.found (λ e read. broken_tree whole_use_path whole_use_path_law whole_use_path_tells 0 c.args.text.now (toks c.in_ok-tokens.tokens.items) e k.found read) c.use_path_of.result g
