use Rattle.std.proofs.Common.{subst, sym, refl, inl, inr, ◌++◌}
use Rattle.std.specs.Prelude.{codes}
use Rattle.std.proofs.lemmas.Slice.Eq.{bytes_eq-Decides}
use Rattle.wit_words.specs.NameKey.{name_key, IsNameKey}
use Rattle.wit_words.proofs.NameKeys.{meets, only, folds, identifier, twice, marked, constructor}
use Rattle.wit_words.proofs.name_key.law_name_keys_fold_as_names_do.Goals as goal

pub returns-clause-meaning : goal.returns-clause-meaning
returns-clause-meaning c name key = (only name key, λ e. subst (IsNameKey name) (sym e) (meets name))

pub returns-clause-equal : goal.returns-clause-equal
returns-clause-equal c a b = bytes_eq-Decides (name_key a) (name_key b)

pub returns-clause-case : goal.returns-clause-case
returns-clause-case c = folds

pub returns-clause-identifier : goal.returns-clause-identifier
returns-clause-identifier c = identifier

pub returns-clause-twice : goal.returns-clause-twice
returns-clause-twice c = twice

pub returns-clause-method : goal.returns-clause-method
returns-clause-method c n none = marked (codes "[method]" ++ n) n (inl refl) none

pub returns-clause-static_function : goal.returns-clause-static_function
returns-clause-static_function c n none = marked (codes "[static]" ++ n) n (inr refl) none

pub returns-clause-constructor : goal.returns-clause-constructor
returns-clause-constructor c = constructor
