use Rattle.std.proofs.Common.{arith}
use Rattle.std.proofs.lemmas.List.{take_all}
use Rattle.wit_words.proofs.DocLines.{texts_joined}
use Rattle.wit_words.proofs.docs.Docs.contents.Goals as goal

pub returns : goal.returns
returns c =
    simp (texts_joined c.without_empty_end.result.now, c.without_empty_end.ensures, c.deref.ensures.value, c.loop-comment.invariant, take_all c.loop-comment.comment-index c.args.self.now.comments.items (omega (arith, c.loop-comment-test.false, c.deref-comment-items.ensures.len)), c.deref-comment-items.ensures.value) at c.joined.ensures
