-- What stands next.
use Rattle.std.specs.Prelude.{List, [], ◌∷◌, Option, Some, None}
use Rattle.wit_tokens.specs.Passed.wit_words-Token.{What, Tok}

-- the next token, if any, whatever docs are in front of it, and wherever it stands
abbrev pub ahead : List Tok → Option What
ahead [] = None
ahead (t ∷ ts) = Some t.what
