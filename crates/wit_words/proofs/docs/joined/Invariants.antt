use Rattle.std.proofs.Common.{◌≡◌, ◌∷◌, ◌++◌, take, flat_map, string_bytes}
use Rattle.wit_words.proofs.docs.joined.Given as goal

abbrev pub invariant-loop-line : goal.invariant-loop-line
invariant-loop-line l = string_bytes l.contents ≡ string_bytes l.initial.contents ++ flat_map (λ line. 10 ∷ line.now) (take l.line-index l.others)
