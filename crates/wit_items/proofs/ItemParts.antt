-- Productions of items, by those of their parts.
use Rattle.std.proofs.Common.{◌≡◌, ◌∙◌, ℕ, List, [], refl, Ok, Bool, true, false, if◌then◌else◌}
use Rattle.std.specs.Prelude.{codes}
use Rattle.wit_productions.specs.Passed.wit_words-declared-token-Kind-TheVariants as kind
use Rattle.wit_productions.specs.Passed.wit_words-Token.{Tok}
use Rattle.wit_items.specs.ItemTree as tree
use Rattle.wit_items.specs.ItemTree.{GatedTree, ResourceFuncTree, TypeDefTree}
use Rattle.wit_productions.specs.Production.{Outcome, Production, and_then, sees, after, sign, branch, until, ◌>>=◌, ◌>>◌, yield}
use Rattle.wit_productions.specs.Terminal.{id, version, word}
use Rattle.wit_productions.specs.Passed.wit_words-Slice.{Slice}
use Rattle.wit_productions.proofs.Steps.{then_same, regrouped}
use Rattle.wit_items.specs.ItemGrammar.{argument, version_argument, feature_argument, gated, resource_func, resource_funcs, resource_behind}

-- a gate's argument by its name and its value
abbrev value_in : Production Slice → Production Slice
value_in value = value >>= (λ v. sign kind.RightParenthesis >> yield v)

named : (name : List ℕ) (value : Production Slice) (ts : List Tok) → (sign kind.LeftParenthesis >> (word name >> (sign kind.Equals >> value_in value))).read ts ≡ (argument name >> value_in value).read ts
unfolding argument
named name value ts =
    then_same ((sign kind.LeftParenthesis).read ts) (λ _ rest. regrouped ((word name).read rest) (λ _ rest. (sign kind.Equals).read rest) (λ _ rest. (value_in value).read rest))
    ∙ regrouped ((sign kind.LeftParenthesis).read ts) (λ _ rest. and_then ((word name).read rest) (λ _ rest. (sign kind.Equals).read rest)) (λ _ rest. (value_in value).read rest)

module _ (ts : List Tok) where
  pub version_argument_reads : version_argument.read ts ≡ (argument (codes "version") >> value_in version).read ts
  unfolding version_argument
  version_argument_reads = named (codes "version") version ts

  pub feature_argument_reads : feature_argument.read ts ≡ (argument (codes "feature") >> value_in id).read ts
  unfolding feature_argument
  feature_argument_reads = named (codes "feature") id ts

  pub resource_reads : resource_behind.read ts ≡ (id >>= (λ n. resource_funcs >>= (λ fs. yield (record { name = n; kind = tree.resource fs })))).read ts
  unfolding resource_behind resource_funcs branch
  resource_reads = then_same (id.read ts) (λ n rest. cases n rest (sees kind.Semicolon rest))
    where
      made : Slice → List (GatedTree ResourceFuncTree) → List Tok → Outcome TypeDefTree
      made n fs rest = Ok (record { name = n; kind = tree.resource fs }, rest)

      funcs : List Tok → Outcome (List (GatedTree ResourceFuncTree))
      funcs = (until (gated resource_func) kind.RightBrace).read

      cases : (n : Slice) (ts : List Tok) (b : Bool) → (if b then made n [] (after kind.Semicolon ts) else and_then ((sign kind.LeftBrace).read ts) (λ _ rest. and_then (funcs rest) (made n)))
          ≡ and_then (if b then Ok ([], after kind.Semicolon ts) else and_then ((sign kind.LeftBrace).read ts) (λ _. funcs)) (made n)
      cases n ts true = refl
      cases n ts false = regrouped ((sign kind.LeftBrace).read ts) (λ _. funcs) (made n)
