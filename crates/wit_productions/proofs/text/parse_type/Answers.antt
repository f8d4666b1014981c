use Rattle.std.proofs.Common.{◌+◌, length}
use Rattle.std.proofs.lemmas.Result.{err_from_is_err_and}
use Rattle.wit_productions.specs.TypeView.{type_tree}
use Rattle.wit_productions.specs.TypeGrammar.{whole_type}
use Rattle.wit_tokens.specs.Passed.wit_words-Token.{toks}
use Rattle.wit_productions.specs.WholeText.{GivesTree}
use Rattle.wit_productions.proofs.TreeBreaks.{broken_tree}
use Rattle.wit_productions.proofs.TypeLaws.{whole_type_law}
use Rattle.wit_productions.proofs.TypeBreaks.{whole_type_tells}
use Rattle.wit_productions.proofs.Texts.{lex_refuses, text_tree, text_answers, text_cause}
use Rattle.wit_productions.proofs.Wholes.{whole_type_whole}
use Rattle.wit_productions.proofs.text.parse_type.Goals as goal

pub returns-in_err-tokens-clause-only : goal.returns-in_err-tokens-clause-only
returns-in_err-tokens-clause-only c =
    let p = err_from_is_err_and c.from_residual.result c.from_residual.ensures.1 in
    λ d t. rw (p.1, p.2) (lex_refuses type_tree t.tokens d c.in_err-tokens.field-0.0 (c.in_err-tokens.ensures.only t.tokens t.lexes t.small))

pub returns-clause-found : goal.returns-clause-found
returns-clause-found c =
    let k = c.in_ok-tokens.ensures in
    let g : GivesTree type_tree whole_type (0 + length c.args.text.now) (toks c.in_ok-tokens.tokens.items) c.type_of.result = (rw (c.deref.ensures.value, c.end_of.ensures) at (c.type_of.ensures)) in
    text_tree whole_type whole_type_law 0 c.args.text.now type_tree (toks c.in_ok-tokens.tokens.items) k.found whole_type_whole k.within c.type_of.result g

pub returns-clause-only : goal.returns-clause-only
returns-clause-only c =
    let k = c.in_ok-tokens.ensures in
    let g : GivesTree type_tree whole_type (0 + length c.args.text.now) (toks c.in_ok-tokens.tokens.items) c.type_of.result = (rw (c.deref.ensures.value, c.end_of.ensures) at (c.type_of.ensures)) in
    λ d t. text_answers whole_type whole_type_law 0 c.args.text.now type_tree (toks c.in_ok-tokens.tokens.items) k.found c.type_of.result d g t

pub returns-clause-cause : goal.returns-clause-cause
returns-clause-cause c =
    let k = c.in_ok-tokens.ensures in
    let g : GivesTree type_tree whole_type (0 + length c.args.text.now) (toks c.in_ok-tokens.tokens.items) c.type_of.result = (rw (c.deref.ensures.value, c.end_of.ensures) at (c.type_of.ensures)) in
    text_cause whole_type whole_type_law 0 c.args.text.now type_tree (toks c.in_ok-tokens.tokens.items) k.found (λ e read. broken_tree whole_type whole_type_law whole_type_tells 0 c.args.text.now (toks c.in_ok-tokens.tokens.items) e k.found read) c.type_of.result g
