use Rattle.wit_productions.proofs.Texts.{stands_there}
use Rattle.wit_productions.proofs.text.place_of.Goals as goal

pub returns-in-Some : goal.returns-in-Some
returns-in-Some c =
    let k = c.in-Some.ensures.lookup in
    stands_there c.args.end c.args.left c.saturating_sub.result c.args.tokens.now c.in-Some.token.now _ c.saturating_sub.ensures k.0 k.1
