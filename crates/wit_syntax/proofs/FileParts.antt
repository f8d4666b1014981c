-- Productions of worlds and files, by those of their parts.
use Rattle.std.proofs.Common.{◌≡◌, ◌∙◌, List, [], ◌∷◌, Ok, Bool, true, false, if◌then◌else◌}
use Rattle.wit_productions.specs.Passed.wit_words-declared-token-Kind-TheVariants as kind
use Rattle.wit_productions.specs.Passed.wit_words-Token.{Tok}
use Rattle.wit_syntax.specs.Ast as tree
use Rattle.wit_syntax.specs.Ast.{IncludeNameTree, IncludeTree, FirstTree}
use Rattle.wit_items.specs.ItemTree.{AttributeTree}
use Rattle.wit_items.specs.ItemGrammar.{attribute, use_path}
use Rattle.wit_productions.specs.NameTree.{UsePathTree}
use Rattle.wit_productions.specs.Production.{Outcome, Production, and_then, sees, after, sign, branch, optional, commas, many, located, ◌>>=◌, ◌>>◌, yield}
use Rattle.wit_productions.proofs.Steps.{then_same, regrouped}
use Rattle.wit_syntax.specs.FileGrammar.{include_name, include_names, include_behind, file_item, gates, gated_first}

module _ (ts : List Tok) where
  pub include_reads : include_behind.read ts ≡ (use_path >>= (λ p. include_names >>= (λ ns. yield (record { from = p; names = ns })))).read ts
  unfolding include_behind include_names branch
  include_reads = then_same (use_path.read ts) (λ p rest. cases p rest (sees kind.With rest))
    where
      made : UsePathTree → List IncludeNameTree → List Tok → Outcome IncludeTree
      made p ns rest = Ok (record { from = p; names = ns }, rest)

      ended : List IncludeNameTree → List Tok → Outcome (List IncludeNameTree)
      ended ns rest = and_then ((optional kind.Semicolon (yield (tt {0}))).read rest) (λ _ rest. Ok (ns, rest))

      named : List Tok → Outcome (List IncludeNameTree)
      named rest = and_then ((commas include_name kind.RightBrace).read rest) ended

      cases : (p : UsePathTree) (ts : List Tok) (b : Bool)
          → (if b then (sign kind.LeftBrace >> (commas include_name kind.RightBrace >>= (λ ns. optional kind.Semicolon (yield (tt {0})) >> yield (record { from = p; names = ns })))).read (after kind.With ts) else and_then ((sign kind.Semicolon).read ts) (λ _. made p []))
          ≡ and_then (if b then and_then ((sign kind.LeftBrace).read (after kind.With ts)) (λ _. named) else and_then ((sign kind.Semicolon).read ts) (λ _ rest. Ok ([], rest))) (made p)
      cases p ts true =
          then_same ((sign kind.LeftBrace).read (after kind.With ts)) (λ _ rest.
          then_same ((commas include_name kind.RightBrace).read rest) (λ ns rest. regrouped ((optional kind.Semicolon (yield (tt {0}))).read rest) (λ _ rest. Ok (ns, rest)) (made p))
          ∙ regrouped ((commas include_name kind.RightBrace).read rest) ended (made p))
          ∙ regrouped ((sign kind.LeftBrace).read (after kind.With ts)) (λ _. named) (made p)
      cases p ts false = regrouped ((sign kind.Semicolon).read ts) (λ _ rest. Ok ([], rest)) (made p)

  pub gated_first_reads : gated_first.read ts ≡ (gates >>= (λ gs. located file_item >>= (λ i. yield (tree.FirstTree.item gs i.0 i.1)))).read ts
  unfolding gated_first gates
  gated_first_reads =
      then_same (attribute.read ts) (λ a rest. regrouped ((many kind.At attribute).read rest) (λ more rest. Ok (a ∷ more, rest)) behind)
      ∙ regrouped (attribute.read ts) (λ a rest. and_then ((many kind.At attribute).read rest) (λ more rest. Ok (a ∷ more, rest))) behind
    where
      behind : List AttributeTree → List Tok → Outcome FirstTree
      behind gs = (located file_item >>= (λ i. yield (tree.FirstTree.item gs i.0 i.1))).read
