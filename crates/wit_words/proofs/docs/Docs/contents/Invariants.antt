use Rattle.std.proofs.Common.{◌≡◌, map, take, flat_map}
use Rattle.wit_words.specs.Docs.{comment_text, lines_of}
use Rattle.wit_words.specs.Token.{comment}
use Rattle.wit_words.proofs.docs.Docs.contents.Given as goal

abbrev pub invariant-loop-comment : goal.invariant-loop-comment
invariant-loop-comment l = map (λ line. line.now) l.lines.items ≡ flat_map (λ c. lines_of (comment_text c.text)) (map comment (take l.comment-index l.comment-items))
