-- What stands where a name or a path breaks a rule.
use Rattle.std.proofs.Common.{refl, inl}
use Rattle.wit_tokens.specs.Passed.wit_words-declared-token-Kind-TheVariants as kind
use Rattle.wit_tokens.specs.Passed.wit_words-Slice.{Slice}
use Rattle.wit_tokens.specs.Passed.wit_words-Token.{same_kind}
use Rattle.wit_productions.specs.Production.{optional}
use Rattle.wit_productions.specs.Terminal.{version}
use Rattle.wit_productions.specs.NameGrammar.{package_behind, package_name, path_behind, use_path, whole_use_path}
use Rattle.wit_productions.proofs.BracketLaws.{Tells, behind_other, tells_yield, tells_bind, tells_branch, tells_sign_other, tells_optional, tells_finish}
use Rattle.wit_productions.proofs.TerminalBreaks.{id_tells, behind_version}

ruleset tells = (tells_bind, tells_yield, tells_sign_other, tells_branch, behind_other, tells_optional, id_tells)

at_version_tells : Tells 0 0 (optional kind.At version)
unfolding same_kind
at_version_tells = tells_optional 0 kind.At version (behind_version 0 kind.At (inl refl) refl refl)

package_behind_tells : (namespace : Slice) → Tells 0 0 (package_behind namespace)
unfolding package_behind
package_behind_tells namespace = search (at_version_tells, tells)

pub package_name_tells : Tells 0 0 package_name
unfolding package_name same_kind
package_name_tells = search (package_behind_tells, tells)

pub path_behind_tells : (namespace : Slice) → Tells 0 0 (path_behind namespace)
unfolding path_behind same_kind
path_behind_tells namespace = search (at_version_tells, tells) depth 8

pub use_path_tells : Tells 0 0 use_path
unfolding use_path same_kind
use_path_tells = search (path_behind_tells, tells)

pub whole_use_path_tells : Tells 0 0 whole_use_path
unfolding whole_use_path
whole_use_path_tells = tells_bind 0 0 use_path _ use_path_tells (λ p. tells_finish 0 p)
