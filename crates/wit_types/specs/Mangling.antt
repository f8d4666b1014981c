-- How core names are spelled, by its names.
use Rattle.std.specs.Prelude.{◌≡◌, ◌≢◌, ℕ, List, Result, Ok, Err, codes}
use Rattle.wit_types.specs.declared.mangling.Mangling.{Mangling}
use Rattle.wit_types.specs.declared.mangling.Mangling.TheVariants.{Standard32, Legacy}
use Rattle.wit_types.specs.declared.mangling.UnknownMangling.{UnknownMangling}

-- the name of a spelling
abbrev pub mangling_word : Mangling → List ℕ
mangling_word Standard32 = codes "standard32"
mangling_word Legacy = codes "legacy"

-- a name is read to what it names, and any other text is refused
abbrev pub IsReadTo : List ℕ → Result Mangling UnknownMangling → Type 0
IsReadTo text (Ok m) = text ≡ mangling_word m
IsReadTo text (Err e) = (m : Mangling) → text ≢ mangling_word m
