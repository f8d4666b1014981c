-- Productions behind which nothing is left.
use Rattle.wit_productions.specs.NameGrammar.{use_path, whole_use_path}
use Rattle.wit_productions.specs.TypeGrammar.{any_type, whole_type}
use Rattle.wit_productions.proofs.Texts.{Whole, whole_finish, whole_bind}

pub whole_use_path_whole : Whole whole_use_path
unfolding whole_use_path
whole_use_path_whole = whole_bind use_path _ (λ p. whole_finish p)

pub whole_type_whole : Whole whole_type
unfolding whole_type
whole_type_whole = whole_bind any_type _ (λ t. whole_finish t)
