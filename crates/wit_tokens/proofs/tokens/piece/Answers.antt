use Rattle.std.proofs.Common.{arith, rules}
use Rattle.wit_tokens.proofs.Seams.{front_cut}
use Rattle.wit_tokens.proofs.tokens.piece.Goals as goal

pub split_at-requires : goal.split_at-requires
split_at-requires c = front_cut c.args.text.now (c.in_ok-lexeme.lexeme, c.in_ok-lexeme.len) c.utf8.text (omega (arith, c.in_ok-lexeme.ensures.within)) (first_of (search rules, cc))
