-- The productions of types, by those of the last of their parts.
use Rattle.std.proofs.Common.{◌≡◌, ℕ, List, refl, ap, Option, Some, None, Ok, Err, Bool, true, false, if◌then◌else◌}
use Rattle.wit_tokens.specs.Passed.wit_words-declared-token-Kind-TheVariants as kind
use Rattle.wit_tokens.specs.Passed.wit_words-Token.{Tok}
use Rattle.wit_productions.specs.TypeTree as tree
use Rattle.wit_productions.specs.TypeTree.{TypeTree, TypeShape, opt, no_type, a_type}
use Rattle.wit_productions.specs.Production.{Outcome, Production, and_then, sees, after, sign, branch, optional, ◌>>=◌, ◌>>◌, yield}
use Rattle.wit_productions.proofs.Steps.{then_same}
use Rattle.wit_productions.specs.TypeGrammar.{list_len, list_end, last_part, second_part, list_after, option_after, result_parts, payload}

abbrev pub list_of : TypeTree → Option ℕ → TypeShape
list_of t None = tree.list t
list_of t (Some n) = tree.fixed_length_list t n

signed : {A B : Type 0} (f : A → B) (x : A) (s : Outcome (Unit {0})) → and_then s (λ _ rest. Ok (f x, rest)) ≡ and_then (and_then s (λ _ rest. Ok (x, rest))) (λ x rest. Ok (f x, rest))
signed f x (Ok p) = refl
signed f x (Err e) = refl

-- what is made of a part after the sign behind it, and before
closed : {A B : Type 0} (f : A → B) (o : Outcome A) → and_then o (λ x rest. and_then ((sign kind.GreaterThan).read rest) (λ _ rest. Ok (f x, rest)))
    ≡ and_then (and_then o (λ x rest. and_then ((sign kind.GreaterThan).read rest) (λ _ rest. Ok (x, rest)))) (λ x rest. Ok (f x, rest))
closed f (Ok p) = signed f p.0 ((sign kind.GreaterThan).read p.1)
closed f (Err e) = refl

closed_option : {A B : Type 0} (f g : Option A → B) → f None ≡ g None → ((x : A) → f (Some x) ≡ g (Some x)) → (o : Outcome (Option A)) → and_then o (λ x rest. and_then ((sign kind.GreaterThan).read rest) (λ _ rest. Ok (f x, rest)))
    ≡ and_then (and_then o (λ x rest. and_then ((sign kind.GreaterThan).read rest) (λ _ rest. Ok (x, rest)))) (λ x rest. Ok (g x, rest))
closed_option f g none some (Ok (None, rest)) = rw none (signed g None ((sign kind.GreaterThan).read rest))
closed_option f g none some (Ok (Some x, rest)) = rw (some x) (signed g (Some x) ((sign kind.GreaterThan).read rest))
closed_option f g none some (Err e) = refl

module _ (inner : Production TypeTree) (ts : List Tok) where
  pub list_reads : (list_after inner).read ts ≡ (sign kind.LessThan >> (inner >>= (λ t. list_end >>= (λ n. yield (list_of t n))))).read ts
  unfolding list_after list_end
  list_reads = then_same ((sign kind.LessThan).read ts) (λ _ rest. then_same (inner.read rest) (λ t rest. closed_option _ (list_of t) refl (λ n. refl) ((optional kind.Comma list_len).read rest)))

  pub option_reads : (option_after inner).read ts ≡ (sign kind.LessThan >> (last_part inner >>= (λ t. yield (tree.option t)))).read ts
  unfolding option_after last_part
  option_reads = then_same ((sign kind.LessThan).read ts) (λ _ rest. closed tree.option (inner.read rest))

  pub payload_reads : (payload inner).read ts ≡ (branch kind.LessThan (last_part inner >>= (λ t. yield (Some t))) (yield None)).read ts
  unfolding payload last_part branch
  payload_reads = ap (λ (o : Outcome (Option TypeTree)). if sees kind.LessThan ts then o else Ok (None, ts)) (closed Some (inner.read (after kind.LessThan ts)))

  second : {B : Type 0} (f : Option TypeTree → B) → and_then ((optional kind.Comma inner).read ts) (λ x rest. and_then ((sign kind.GreaterThan).read rest) (λ _ rest. Ok (f x, rest)))
      ≡ and_then ((second_part inner).read ts) (λ x rest. Ok (f x, rest))
  unfolding second_part last_part branch
  second f = cases (sees kind.Comma ts) (inner.read (after kind.Comma ts))
    where
      cases : (b : Bool) (o : Outcome TypeTree) → and_then (if b then and_then o (λ x rest. Ok (Some x, rest)) else Ok (None, ts)) (λ x rest. and_then ((sign kind.GreaterThan).read rest) (λ _ rest. Ok (f x, rest)))
          ≡ and_then (if b then and_then (and_then o (λ x rest. and_then ((sign kind.GreaterThan).read rest) (λ _ rest. Ok (x, rest)))) (λ x rest. Ok (Some x, rest)) else and_then ((sign kind.GreaterThan).read ts) (λ _ rest. Ok (None, rest))) (λ x rest. Ok (f x, rest))
      cases true (Ok p) = of_sign ((sign kind.GreaterThan).read p.1)
        where
          of_sign : (s : Outcome (Unit {0})) → and_then s (λ _ rest. Ok (f (Some p.0), rest)) ≡ and_then (and_then (and_then s (λ _ rest. Ok (p.0, rest))) (λ x rest. Ok (Some x, rest))) (λ x rest. Ok (f x, rest))
          of_sign (Ok q) = refl
          of_sign (Err e) = refl
      cases true (Err e) = refl
      cases false o = signed f None ((sign kind.GreaterThan).read ts)

module _ (inner : Production TypeTree) (ts : List Tok) where
  pub result_parts_reads : (result_parts inner).read ts ≡ (branch kind.Underscore
      (sign kind.Comma >> (last_part inner >>= (λ e. yield (tree.result no_type (a_type e)))))
      (inner >>= (λ t. second_part inner >>= (λ e. yield (tree.result (a_type t) (opt e)))))).read ts
  unfolding result_parts last_part branch
  result_parts_reads = cases (sees kind.Underscore ts)
    where
      cases : (b : Bool) → (if b then (sign kind.Comma >> (inner >>= (λ e. sign kind.GreaterThan >> yield (tree.result no_type (a_type e))))).read (after kind.Underscore ts) else (inner >>= (λ t. optional kind.Comma inner >>= (λ e. sign kind.GreaterThan >> yield (tree.result (a_type t) (opt e))))).read ts)
          ≡ (if b then (sign kind.Comma >> (last_part inner >>= (λ e. yield (tree.result no_type (a_type e))))).read (after kind.Underscore ts) else (inner >>= (λ t. second_part inner >>= (λ e. yield (tree.result (a_type t) (opt e))))).read ts)
      cases true = then_same ((sign kind.Comma).read (after kind.Underscore ts)) (λ _ rest. closed (λ (e : TypeTree). tree.result no_type (a_type e)) (inner.read rest))
      cases false = then_same (inner.read ts) (λ t rest. second inner rest (λ (e : Option TypeTree). tree.result (a_type t) (opt e)))
