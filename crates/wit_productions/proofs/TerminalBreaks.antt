-- Where no identifier, word or version stands.
use Rattle.std.proofs.Common.{◌≡◌, ◌⊎◌, ℕ, Bool, true, false, cond, bytes_eq, List, [], ◌∷◌, Some, Result, Ok, Err, refl, ap, ◌∙◌, inl, inr, arith}
use Rattle.std.specs.Prelude.{IsOk, is_ok}
use Rattle.std.proofs.lemmas.Bool.{cases_Bool}
use Rattle.semver.specs.Parse.{version_parts}
use Rattle.wit_productions.specs.declared.fault.Fault.{Fault}
use Rattle.wit_tokens.specs.Passed.wit_words-declared-fault-Rule.{Rule}
use Rattle.wit_tokens.specs.Passed.wit_words-declared-fault-Rule-TheVariants as rules
use Rattle.wit_tokens.specs.Passed.wit_words-declared-token-Kind.{Kind}
use Rattle.wit_tokens.specs.Passed.wit_words-declared-token-Kind-TheVariants as kind
use Rattle.wit_tokens.specs.Lex.{Text}
use Rattle.wit_productions.specs.Production.{Stands, spanned, slice_at}
use Rattle.wit_tokens.specs.Passed.wit_words-Slice.{Slice}
use Rattle.wit_productions.specs.Terminal.{id_in, id, version_in, version, word_in, word}
use Rattle.wit_tokens.specs.Passed.wit_words-Token.{What, Tok, plain, number, version as version_token, ident, explicit, same_kind}
use Rattle.wit_productions.proofs.Laws.{judged_err, spanned_err}
use Rattle.wit_productions.proofs.BracketLaws.{Tells, Behind, Break, Said, Asked, said_plain, wrong_break, break_on, level_on, stands_level, slice_level, tells_one, tells_slice}

abbrev refused : Rule → Result Text Rule
refused r = Err r

rule_is : (r s : Rule) → refused r ≡ refused s → s ≡ r
rule_is r s h = cc

-- ---- identifiers

no_id : (w : What) (r : Rule) → id_in w ≡ Err r → r ≡ rules.Unexpected
no_id (ident s) r e = absurd cc
no_id (explicit s) r e = absurd cc
no_id (plain k) r e = rule_is rules.Unexpected r e
no_id (number s) r e = rule_is rules.Unexpected r e
no_id (version_token s) r e = rule_is rules.Unexpected r e

pub id_tells : (o : ℕ) → Tells o 0 id
unfolding id
id_tells o = tells_slice o id_in (λ k. refl) no_id

-- ---- words

abbrev word_or_not : Bool → Result (Unit {0}) Rule
word_or_not same = cond same (Ok tt) (Err rules.Unexpected)

not_word : (same : Bool) (r : Rule) → word_or_not same ≡ Err r → r ≡ rules.Unexpected
not_word true r e = absurd cc
not_word false r e = cc

no_word : (word : List ℕ) (w : What) (r : Rule) → word_in word w ≡ Err r → r ≡ rules.Unexpected
no_word word (ident s) r e = not_word (bytes_eq s word) r e
no_word word (plain k) r e = not_word false r e
no_word word (number s) r e = not_word false r e
no_word word (version_token s) r e = not_word false r e
no_word word (explicit s) r e = not_word false r e

pub word_tells : (o : ℕ) (w : List ℕ) → Tells o 0 (word w)
unfolding word
word_tells o w = tells_one o (word_in w) (λ k. rules.Unexpected) (λ k. refl) (λ t ts r e. said_plain o r (t ∷ ts) (t ∷ ts) (no_word w t.what r e))

-- ---- versions

abbrev pub asks_version : Kind → Type 0
asks_version k = (k ≡ kind.At) ⊎ (k ≡ kind.Equals)

no_version : (w : What) (r : Rule) → version_in w ≡ Err r → (r ≡ rules.BadVersion) × ((s : Text) → w ≡ version_token s → IsOk (version_parts s) → ⊥)
no_version (version_token s) r e = elim (cases_Bool (is_ok (version_parts s))) [
  | inl read ↦ absurd (let no = rw read at e in cc)
  | inr refused ↦ (rule_is rules.BadVersion r (rw refused at e), λ t is read. absurd (let same : s ≡ t = cc in let yes = ap (λ x. is_ok (version_parts x)) same ∙ read in cc))
]
no_version (plain k) r e = (rule_is rules.BadVersion r e, λ s is read. absurd cc)
no_version (number n) r e = (rule_is rules.BadVersion r e, λ s is read. absurd cc)
no_version (ident n) r e = (rule_is rules.BadVersion r e, λ s is read. absurd cc)
no_version (explicit n) r e = (rule_is rules.BadVersion r e, λ s is read. absurd cc)

what_is : (v w : What) → Some v ≡ Some w → v ≡ w
what_is v w e = cc

said_asked : (o : ℕ) (r : Rule) (ts place : List Tok) → r ≡ rules.BadVersion → Asked ts place → Said o r ts place
said_asked o r ts place e a = rw e a

asking : (k : Kind) (w : What) → w ≡ plain k → asks_version k → (w ≡ plain kind.At) ⊎ (w ≡ plain kind.Equals)
asking k w is (inl at) = inl (is ∙ ap (λ j. plain j) at)
asking k w is (inr equals) = inr (is ∙ ap (λ j. plain j) equals)

module _ (o : ℕ) (k : Kind) (asks : asks_version k) (less : same_kind k kind.LessThan ≡ false) (greater : same_kind k kind.GreaterThan ≡ false) where
  version_breaks : (ts mid : List Tok) (e : Fault) → Stands k ts mid → slice_at version_in mid ≡ Err e → Break o ts e
  version_breaks ts [] e s h = let l = stands_level k ts [] s less greater in break_on o o l.taken ts [] e l.parts (omega (arith, l.signs)) (wrong_break {X = Slice} o [] e h)
  version_breaks ts (t ∷ us) e s h =
      let w = judged_err (t ∷ us) (spanned t.span (version_in t.what)) us e h in
      let n = no_version t.what e.rule (spanned_err t.span (version_in t.what) e.rule w.0) in
      let asked : Asked ts (t ∷ us) = record { front = []; asks = s.token; parts = s.first; sign = asking k s.token.what s.is asks; none = λ v is. n.1 v (what_is t.what (version_token v) is) } in
      record { taken = s.token ∷ []; place = t ∷ us; parts = s.first; left = w.1; says = said_asked o e.rule ts (t ∷ us) n.0 asked }

  -- a version behind a sign that asks for it
  pub behind_version : Behind o 0 k version
  unfolding version
  behind_version = record {
    level = λ ts mid x rest s e. level_on 0 0 0 ts mid rest (omega arith) (stands_level k ts mid s less greater) (slice_level version_in rules.BadVersion (λ k. refl) mid x rest e);
    breaks = version_breaks;
  }
