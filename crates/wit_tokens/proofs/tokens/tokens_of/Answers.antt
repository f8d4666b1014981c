use Rattle.std.proofs.Common.{◌≡◌, rules, arith, sym, subst, Vec, Global}
use Rattle.std.proofs.lemmas.Result.{err_from_is_err_and}
use Rattle.wit_tokens.specs.Lex.{Kept, kept, read_bare, with_front}
use Rattle.wit_words.specs.declared.token.DocumentedToken.{DocumentedToken}
use Rattle.wit_words.specs.Token.{toks}
use Rattle.wit_tokens.proofs.LexLaws.{lex_goes, lex_fails, lex_ends}
use Rattle.wit_tokens.proofs.tokens.tokens_of.Goals as goal

pub returns-in_err-found : goal.returns-in_err-found
returns-in_err-found c =
    let p = err_from_is_err_and c.from_residual.result c.from_residual.ensures.1 in
    rw (p.1, p.2) (lex_fails (λ (v : Vec DocumentedToken Global). toks v.items) (kept c.loop-rest.kept) c.loop-rest.at c.loop-rest.rest.now c.in_err-found.field-0.0 (read_bare c.args.start c.args.text.now) (search rules) c.in_err-found.ensures.value c.loop-rest.invariant.tokens)

pub loop-rest-preserved : goal.loop-rest-preserved
loop-rest-preserved c = record {
  text = search rules;
  within = omega (arith, c.in_ok-found.ensures.within);
  tokens = subst (λ (k : Kept). with_front k (read_bare c.in_ok-found.span.end c.in_ok-found.after.now) ≡ read_bare c.args.start c.args.text.now) (sym c.in_ok-add.ensures) (lex_goes (kept c.loop-rest.kept) c.loop-rest.at c.loop-rest.rest.now _ c.in_ok-found.span c.in_ok-found.after.now (read_bare c.args.start c.args.text.now) c.in_ok-found.ensures.moves c.in_ok-found.ensures.value c.loop-rest.invariant.tokens);
}

pub returns : goal.returns
returns c = lex_ends (kept c.loop-rest.kept) c.loop-rest.at c.loop-rest.rest.now (read_bare c.args.start c.args.text.now) (search rules) c.loop-rest.invariant.tokens
