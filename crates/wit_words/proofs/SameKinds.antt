-- Kinds are compared as they are.
use Rattle.std.proofs.Common.{◌≡◌, true, refl, rules}
use denote.Enum.Bare.{same_true, true_same}
use Rattle.wit_words.specs.contracts.token.Kind.{the_type}
use Rattle.wit_words.specs.declared.token.Kind.{Kind}
use Rattle.wit_words.specs.Token.{same_kind}

pub same_is : (j k : Kind) → same_kind j k ≡ true → j ≡ k
unfolding same_kind
same_is j k e = same_true the_type (search rules) j k e

pub same_self : (k : Kind) → same_kind k k ≡ true
unfolding same_kind
same_self k = true_same the_type k k refl
