-- What stands where the text of a type breaks a rule.
use Rattle.std.proofs.Common.{◌≡◌, ◌⊎◌, ℕ, zero, suc, ◌+◌, ◌≤◌, ◌^◌, ◌==◌, nat_le, Bool, true, false, if◌then◌else◌, List, ◌∷◌, Some, Result, Ok, Err, refl, sym, ap, ◌∙◌, inl, inr, arith, rules}
use Rattle.std.proofs.lemmas.Bool.{cases_Bool, leb-true}
use Rattle.wit_tokens.specs.Passed.wit_words-declared-fault-Rule.{Rule}
use Rattle.wit_tokens.specs.Passed.wit_words-declared-fault-Rule-TheVariants as rule
use Rattle.wit_tokens.specs.Passed.wit_words-declared-token-Kind-TheVariants as kind
use Rattle.wit_productions.specs.Broken.{IsBadNumber}
use Rattle.wit_productions.specs.Production.{Production, one, located, optional, commas}
use Rattle.wit_tokens.specs.Passed.wit_words-Token.{What, Tok, plain, number, version, ident, explicit, same_kind}
use Rattle.wit_productions.specs.TypeGrammar.{decimal, list_length, length_in, list_len, list_after, option_after, tuple_after, result_parts, result_after, handle_of, payload, type_after, begins_type, too_deep, named_type, shape_of, type_in, any_type, whole_type}
use Rattle.wit_productions.specs.TypeTree.{TypeTree}
use Rattle.wit_productions.specs.Terminal.{id}
use Rattle.wit_productions.proofs.BracketLaws.{Tells, Said, NextTells, behind_other, behind_open, behind_close, said_plain, tells_yield, tells_one, tells_bind, tells_map, tells_branch, tells_sign, tells_by_or, tells_located, tells_commas, tells_optional, tells_close, tells_finish}
use Rattle.wit_productions.proofs.TerminalBreaks.{id_tells}

-- ---- single tokens

out_of_range : (n : ℕ) → (list_length n ≡ Ok n) ⊎ ((list_length n ≡ Err rule.BadNumber) × ((n ≡ 0) ⊎ (2 ^ 32 ≤ n)))
out_of_range n = elim (cases_Bool (n == 0)) [
  | inl none ↦ inr (rw none refl, inl (search (rules, none)))
  | inr some ↦ elim (cases_Bool (nat_le (2 ^ 32) n)) [
    | inl long ↦ inr (rw (some, long) refl, inr (leb-true _ _ long))
    | inr short ↦ inl (rw (some, short) refl)
  ]
]

abbrev refused : Rule → Result ℕ Rule
refused r = Err r

length_rule : (r s : Rule) → refused r ≡ refused s → s ≡ r
length_rule r s h = cc

said_number : (o : ℕ) (t : Tok) (ts : List Tok) (r : Rule) → r ≡ rule.BadNumber → IsBadNumber (t ∷ ts) → Said o r (t ∷ ts) (t ∷ ts)
said_number o t ts r e b = rw e b

said_length : (o : ℕ) (t : Tok) (ts : List Tok) (r : Rule) (w : What) → t.what ≡ w → length_in w ≡ Err r → Said o r (t ∷ ts) (t ∷ ts)
said_length o t ts r (number s) is e = elim (out_of_range (decimal s)) [
  | inl good ↦ absurd (let bad = sym good ∙ e in cc)
  | inr bad ↦ said_number o t ts r (length_rule rule.BadNumber r (sym bad.0 ∙ e)) (record { digits = s; stands = ap (λ w. Some w) is; range = bad.1 })
]
said_length o t ts r (plain k) is e = said_plain o r (t ∷ ts) (t ∷ ts) (length_rule rule.Unexpected r e)
said_length o t ts r (version s) is e = said_plain o r (t ∷ ts) (t ∷ ts) (length_rule rule.Unexpected r e)
said_length o t ts r (ident s) is e = said_plain o r (t ∷ ts) (t ∷ ts) (length_rule rule.Unexpected r e)
said_length o t ts r (explicit s) is e = said_plain o r (t ∷ ts) (t ∷ ts) (length_rule rule.Unexpected r e)

list_len_tells : (o : ℕ) → Tells o 0 list_len
unfolding list_len
list_len_tells o = tells_one o length_in (λ k. rule.Unexpected) (λ k. refl) (λ t ts r e. said_length o t ts r t.what refl e)

abbrev deep : Bool → Rule
deep b = if b then rule.TooDeep else rule.Unexpected

abbrev failed : Rule → Result TypeTree Rule
failed r = Err r

rule_is : (r s : Rule) → failed r ≡ failed s → r ≡ s
rule_is r s h = cc

said_deep : (o : ℕ) (t : Tok) (ts : List Tok) (r : Rule) → o ≡ 101 → (b : Bool) → begins_type t.what ≡ b → deep b ≡ r → Said o r (t ∷ ts) (t ∷ ts)
said_deep o t ts r enough true begins e = rw (← e) (record { first = t.what; stands = refl; begins = begins; enclosed = omega (arith, enough) })
said_deep o t ts r enough false begins e = rw (← e) tt

deep_tells : (o : ℕ) → o ≡ 101 → Tells o 0 (one too_deep)
deep_tells o e = tells_one o too_deep (λ k. deep (begins_type (plain k))) (λ k. refl) (λ t ts r h. said_deep o t ts r e (begins_type t.what) refl (rule_is (deep (begins_type t.what)) r h))

-- ---- what stands behind the keyword of a type

handle_of_tells : (o : ℕ) → Tells o 0 handle_of
unfolding handle_of
handle_of_tells o = tells_sign o 0 kind.LessThan _ (behind_open o 0 _ (tells_bind (suc o) 1 id _ (id_tells (suc o)) (λ n. tells_close (suc o) n)))

module _ (o : ℕ) (inner : Production TypeTree) (t : Tells (suc o) 0 inner) where
  list_after_tells : Tells o 0 (list_after inner)
  unfolding list_after same_kind
  list_after_tells = tells_sign o 0 kind.LessThan _ (behind_open o 0 _ (tells_bind (suc o) 1 inner _ t
      (λ x. tells_bind (suc o) 1 (optional kind.Comma list_len) _ (tells_optional (suc o) kind.Comma list_len (behind_other (suc o) 0 kind.Comma list_len refl refl (list_len_tells (suc o)))) (λ n. tells_close (suc o) _))))

  option_after_tells : Tells o 0 (option_after inner)
  unfolding option_after
  option_after_tells = tells_sign o 0 kind.LessThan _ (behind_open o 0 _ (tells_bind (suc o) 1 inner _ t (λ x. tells_close (suc o) _)))

  tuple_after_tells : Tells o 0 (tuple_after inner)
  unfolding tuple_after
  tuple_after_tells = tells_sign o 0 kind.LessThan _ (behind_open o 0 _ (tells_map (suc o) 1 (commas inner kind.GreaterThan) _ (tells_commas (suc o) 1 inner kind.GreaterThan t (λ xs. behind_close (suc o) xs))))

  result_parts_tells : Tells (suc o) 1 (result_parts inner)
  unfolding result_parts same_kind
  result_parts_tells = tells_branch (suc o) 1 kind.Underscore _ _
      (behind_other (suc o) 1 kind.Underscore _ refl refl (tells_sign (suc o) 1 kind.Comma _ (behind_other (suc o) 1 kind.Comma _ refl refl (tells_bind (suc o) 1 inner _ t (λ e. tells_close (suc o) _)))))
      (tells_bind (suc o) 1 inner _ t (λ x. tells_bind (suc o) 1 (optional kind.Comma inner) _ (tells_optional (suc o) kind.Comma inner (behind_other (suc o) 0 kind.Comma inner refl refl t)) (λ e. tells_close (suc o) _)))

  result_after_tells : Tells o 0 (result_after inner)
  unfolding result_after
  result_after_tells = tells_branch o 0 kind.LessThan _ _ (behind_open o 0 _ result_parts_tells) (tells_yield o _)

  payload_tells : Tells o 0 (payload inner)
  unfolding payload
  payload_tells = tells_branch o 0 kind.LessThan _ _ (behind_open o 0 _ (tells_bind (suc o) 1 inner _ t (λ x. tells_close (suc o) _))) (tells_yield o _)

  next_tells : (w : What) → NextTells o 0 (type_after inner w)
  next_tells (plain kind.Bool) = tells_yield o _
  next_tells (plain kind.U8) = tells_yield o _
  next_tells (plain kind.U16) = tells_yield o _
  next_tells (plain kind.U32) = tells_yield o _
  next_tells (plain kind.U64) = tells_yield o _
  next_tells (plain kind.S8) = tells_yield o _
  next_tells (plain kind.S16) = tells_yield o _
  next_tells (plain kind.S32) = tells_yield o _
  next_tells (plain kind.S64) = tells_yield o _
  next_tells (plain kind.F32) = tells_yield o _
  next_tells (plain kind.F64) = tells_yield o _
  next_tells (plain kind.Char) = tells_yield o _
  next_tells (plain kind.StringKeyword) = tells_yield o _
  next_tells (plain kind.ListKeyword) = list_after_tells
  next_tells (plain kind.OptionKeyword) = option_after_tells
  next_tells (plain kind.Tuple) = tuple_after_tells
  next_tells (plain kind.ResultKeyword) = result_after_tells
  next_tells (plain kind.Own) = tells_map o 0 handle_of _ (handle_of_tells o)
  next_tells (plain kind.Borrow) = tells_map o 0 handle_of _ (handle_of_tells o)
  next_tells (plain kind.Future) = tells_map o 0 (payload inner) _ payload_tells
  next_tells (plain kind.Stream) = tells_map o 0 (payload inner) _ payload_tells
  next_tells (plain kind.ErrorContext) = tells_yield o _
  next_tells _ = tt

-- ---- types

named_type_tells : (o : ℕ) → Tells o 0 named_type
unfolding named_type
named_type_tells o = tells_map o 0 id _ (id_tells o)

shape_tells : (o : ℕ) (inner : Production TypeTree) → Tells (suc o) 0 inner → Tells o 0 (shape_of inner)
unfolding shape_of
shape_tells o inner t = tells_by_or o 0 (type_after inner) refl refl (next_tells o inner t) named_type (named_type_tells o)

type_tells : (d o : ℕ) → d + o ≡ 101 → Tells o 0 (type_in d)
unfolding type_in
type_tells zero o e = deep_tells o (omega (arith, e))
type_tells (suc d) o e = tells_map o 0 (located (shape_of (type_in d))) _ (tells_located o 0 (shape_of (type_in d)) (shape_tells o (type_in d) (type_tells d (suc o) (omega (arith, e)))))

pub any_type_tells : Tells 0 0 any_type
unfolding any_type
any_type_tells = type_tells 101 0 refl

pub whole_type_tells : Tells 0 0 whole_type
unfolding whole_type
whole_type_tells = tells_bind 0 0 any_type _ any_type_tells (λ t. tells_finish 0 t)
