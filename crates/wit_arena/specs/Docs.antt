-- What docs say (WIT, Comments).
use Rattle.std.specs.Prelude.{ℕ, List, [], ◌∷◌, Option, Some, None, option_map, string_bytes}
use Rattle.wit_types.specs.Passed.wit_words-Slice.{Slice}
use Rattle.wit_types.specs.Passed.wit_words-Docs.{docs_text}
use Rattle.wit_types.specs.declared.docs.Docs.{Docs}

-- what comments in front of something say; where none stands there nothing is said
abbrev pub said : List Slice → Option (List ℕ)
said [] = None
said (c ∷ cs) = Some (docs_text (c ∷ cs))

abbrev pub contents_of : Docs → Option (List ℕ)
contents_of d = option_map string_bytes d.contents
