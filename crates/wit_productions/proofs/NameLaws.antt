-- Each production of names is read as it says.
use Rattle.std.proofs.Common.{[], ◌∷◌, List, refl}
use Rattle.wit_tokens.specs.Passed.wit_words-declared-token-Kind.{Kind}
use Rattle.wit_tokens.specs.Passed.wit_words-declared-token-Kind-TheVariants as kind
use Rattle.wit_tokens.specs.Passed.wit_words-Slice.{Slice}
use Rattle.wit_tokens.specs.Passed.wit_words-Token.{same_kind}
use Rattle.wit_productions.specs.Production.{sign, optional}
use Rattle.wit_productions.specs.Terminal.{id, version}
use Rattle.wit_productions.specs.NameGrammar.{package_behind, package_name, path_behind, use_path, whole_use_path}
use Rattle.wit_productions.proofs.Laws.{Law, Avoids, bind_law, bind_open, yield_law, sign_law, branch_law, map_law}
use Rattle.wit_productions.proofs.Choices.{avoid_yield, avoid_sign, avoid_first, avoid_skip, avoid_branch}
use Rattle.wit_productions.proofs.Terminals.{id_law, id_avoids, version_law, optional_law, finish_law, finish_avoids}

ruleset laws = (bind_law, yield_law, sign_law, branch_law)

ruleset avoids = (avoid_yield, avoid_sign, avoid_first, avoid_skip, avoid_branch)

abbrev pub open_version : List Kind
open_version = kind.At ∷ []

-- what may go on with a path
abbrev pub open_path : List Kind
open_path = kind.Colon ∷ kind.At ∷ []

package_behind_law : (namespace : Slice) → Law open_version (package_behind namespace)
unfolding package_behind same_kind
package_behind_law namespace = bind_law open_version id _ (id_law []) (λ n. map_law open_version (optional kind.At version) _ (optional_law open_version kind.At version (version_law open_version) refl refl))

pub package_name_law : Law open_version package_name
unfolding package_name
package_name_law = search (laws, id_law, package_behind_law)

pub path_behind_law : (namespace : Slice) → Law open_path (path_behind namespace)
unfolding path_behind same_kind
path_behind_law namespace = bind_law open_path id _ (id_law []) (λ p. bind_law open_path (sign kind.Slash) _ (sign_law [] kind.Slash)
    (λ u. bind_law open_path id _ (id_law []) (λ n. map_law open_path (optional kind.At version) _ (optional_law open_path kind.At version (version_law open_path) refl refl))))

pub path_behind_avoids : (name : Slice) (begins : List Kind) → Avoids [] begins (path_behind name)
unfolding path_behind
path_behind_avoids name begins = avoid_first [] begins id _ (id_avoids [] begins)

pub use_path_law : Law open_path use_path
unfolding use_path same_kind
use_path_law = search (laws, avoids, id_law, path_behind_law)

pub whole_use_path_law : Law [] whole_use_path
unfolding whole_use_path
whole_use_path_law = bind_open [] open_path use_path _ use_path_law (λ p. finish_law [] p) (λ p. finish_avoids [] open_path p)
