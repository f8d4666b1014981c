-- Nothing is left behind a file.
use Rattle.wit_productions.specs.Production.{documented, all}
use Rattle.wit_items.specs.ItemGrammar.{gated}
use Rattle.wit_syntax.specs.FileGrammar.{file_item, first, some_file, file}
use Rattle.wit_productions.proofs.Texts.{Whole, whole_bind, whole_map, whole_at_end, whole_all}

some_file_whole : Whole some_file
unfolding some_file
some_file_whole = whole_bind (documented first) _ (λ f. whole_map (all (gated file_item)) _ (whole_all (gated file_item)))

pub file_whole : Whole file
unfolding file
file_whole = whole_at_end _ some_file some_file_whole
