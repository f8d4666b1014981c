-- Where no lexeme is cut, or what is cut is no token, a text breaks a rule.
use Rattle.std.proofs.Common.{◌≡◌, ℕ, ◌≤◌, ◌⊎◌, true, false, eqb, [], ◌∷◌, ◌++◌, length, Option, Some, None, Result, Err, refl, ap, ◌∙◌, arith, inl, inr}
use Rattle.std.proofs.lemmas.Bool.{cases_Bool, eqb-true}
use Rattle.std.proofs.lemmas.Bool.Decides.{nat_tests}
use Rattle.wit_words.specs.declared.fault.Rule.{Rule}
use Rattle.wit_words.specs.declared.fault.Rule.TheVariants as rules
use Rattle.wit_tokens.specs.declared.lex.Class.TheVariants as class
use Rattle.wit_tokens.specs.declared.lex.Lexeme.{Lexeme}
use Rattle.wit_tokens.specs.declared.lex.Lexeme.TheVariants as lexeme
use Rattle.wit_words.specs.declared.token.Kind.{Kind}
use Rattle.wit_tokens.specs.Cause.{BreaksText}
use Rattle.wit_words.specs.Identifier.{IsIdentifier, is_identifier}
use Rattle.wit_words.specs.Keyword.{keyword}
use Rattle.wit_tokens.specs.Lex.{Text, Cut, is_in, comment_from, closed, slash, minus, percent, sign, version_or_number, lexeme_at, piece_of, word_token, name_token, Piece}
use Rattle.wit_tokens.specs.Lexical.{begins, IsLexeme}
use Rattle.wit_words.specs.Token.{What, ident, explicit}
use Rattle.wit_words.specs.Version.{version_len}
use Rattle.wit_words.proofs.Identifiers.{decides}
use Rattle.wit_tokens.proofs.Lexemes.{lexeme_only}

abbrev refused : Rule → Cut
refused rule = Err rule

rule_is : (r s : Rule) → refused r ≡ refused s → s ≡ r
rule_is r s e = cc

-- which rule is broken where no lexeme is cut
abbrev pub Which : Rule → Text → Type 0
Which rule z = ((rule ≡ rules.BadCharacter) × (begins 47 42 z ≡ false)) ⊎ ((rule ≡ rules.OpenComment) × (begins 47 42 z ≡ true))

not_opened : (b : ℕ) (z : Text) → eqb b 47 ≡ false → begins 47 42 (b ∷ z) ≡ false
not_opened b [] e = refl
not_opened b (c ∷ z) e = rw e refl

sign_refuses : (b : ℕ) (rule : Rule) → sign b ≡ Err rule → rule ≡ rules.BadCharacter
sign_refuses b rule e = grind (arith, nat_tests)

minus_refuses : (z : Text) (rule : Rule) → minus z ≡ Err rule → rule ≡ rules.BadCharacter
minus_refuses [] rule e = rule_is rules.BadCharacter rule e
minus_refuses (c ∷ y) rule e = elim (cases_Bool (eqb c 62)) [
  | inl arrow ↦ absurd (let bad = rw arrow at e in cc)
  | inr other ↦ rule_is rules.BadCharacter rule (rw other at e)
]

percent_refuses : (z : Text) (rule : Rule) → percent z ≡ Err rule → rule ≡ rules.BadCharacter
percent_refuses [] rule e = rule_is rules.BadCharacter rule e
percent_refuses (c ∷ y) rule e = elim (cases_Bool (is_in class.Letter c)) [
  | inl letter ↦ absurd (let bad = rw letter at e in cc)
  | inr other ↦ rule_is rules.BadCharacter rule (rw other at e)
]

slash_refuses : (b : ℕ) (z : Text) (rule : Rule) → b ≡ 47 → slash z ≡ Err rule → Which rule (b ∷ z)
slash_refuses b [] rule is e = absurd cc
slash_refuses b (c ∷ y) rule is e = elim (cases_Bool (eqb c 47)) [
  | inl line ↦ absurd (let bad = rw line at e in cc)
  | inr other ↦ elim (cases_Bool (eqb c 42)) [
    | inl opening ↦ open_comment (comment_from 1 0 0 y) opening (rw (other, opening) at e)
    | inr plain ↦ absurd (let bad = rw (other, plain) at e in cc)
  ]
]
  where
    open_comment : (o : Option ℕ) → eqb c 42 ≡ true → closed o ≡ Err rule → Which rule (b ∷ c ∷ y)
    open_comment None star e = inr (rule_is rules.OpenComment rule e, rw (is, star) refl)
    open_comment (Some n) star e = absurd cc

digits_refuse : (o : Option ℕ) (z : Text) (rule : Rule) → version_or_number o z ≡ Err rule → ⊥
digits_refuse (Some n) z rule e = absurd cc
digits_refuse None z rule e = absurd cc

pub lexeme_refuses : (z : Text) (rule : Rule) → 1 ≤ length z → lexeme_at z ≡ Err rule → Which rule z
unfolding lexeme_at
lexeme_refuses [] rule some e = absurd (omega arith)
lexeme_refuses (b ∷ z) rule some e = elim (cases_Bool (is_in class.Blank b)) [
  | inl blank ↦ absurd (let bad = rw blank at e in cc)
  | inr a ↦ elim (cases_Bool (is_in class.Letter b)) [
    | inl letter ↦ absurd (let bad = rw (a, letter) at e in cc)
    | inr c ↦ elim (cases_Bool (is_in class.Digit b)) [
      | inl digit ↦ absurd (digits_refuse (version_len (b ∷ z)) (b ∷ z) rule (rw (a, c, digit) at e))
      | inr d ↦ elim (cases_Bool (eqb b 47)) [
        | inl is ↦ slash_refuses b z rule (eqb-true b 47 is) (rw (a, c, d, is) at e)
        | inr f ↦ elim (cases_Bool (eqb b 45)) [
          | inl is ↦ inl (minus_refuses z rule (rw (a, c, d, f, is) at e), not_opened b z f)
          | inr g ↦ elim (cases_Bool (eqb b 37)) [
            | inl is ↦ inl (percent_refuses z rule (rw (a, c, d, f, g, is) at e), not_opened b z f)
            | inr h ↦ inl (sign_refuses b rule (rw (a, c, d, f, g, h) at e), not_opened b z f)
          ]
        ]
      ]
    ]
  ]
]

-- where no lexeme is cut none stands
none_stands : (z : Text) (rule : Rule) → lexeme_at z ≡ Err rule → (l : Lexeme) (x rest : Text) → z ≡ x ++ rest → IsLexeme l x rest → ⊥
none_stands z rule e l x rest is h = let good = ap lexeme_at is ∙ lexeme_only l x rest h in absurd cc

pub no_lexeme_breaks : (z : Text) (rule : Rule) → 1 ≤ length z → lexeme_at z ≡ Err rule → BreaksText rule z
no_lexeme_breaks z rule some e = elim (lexeme_refuses z rule some e) [
  | inl bad ↦ rw bad.0 (record { some = some; no_comment = bad.1; no_lexeme = none_stands z rule e })
  | inr open_one ↦ rw open_one.0 (record { opened = open_one.1; no_end = λ x rest is h. none_stands z rule e lexeme.Comment x rest is (inr h) })
]

abbrev refused_piece : Rule → Result Piece Rule
refused_piece rule = Err rule

piece_rule : (r s : Rule) → refused_piece r ≡ refused_piece s → s ≡ r
piece_rule r s e = cc

name_refuses : (f : Text → What) (x : Text) (rule : Rule) → name_token f x ≡ Err rule → (rule ≡ rules.BadIdentifier) × (IsIdentifier x → ⊥)
name_refuses f x rule e = elim (cases_Bool (is_identifier x)) [
  | inl is ↦ absurd (let bad = rw is at e in cc)
  | inr other ↦ (piece_rule rules.BadIdentifier rule (rw other at e), λ h. let is = (decides x (is_identifier x) refl).1 h in absurd cc)
]

-- a lexeme that is no token is a word that is no identifier
pub no_token_breaks : (l : Lexeme) (x rest : Text) (rule : Rule) → IsLexeme l x rest → piece_of l x ≡ Err rule → BreaksText rule (x ++ rest)
no_token_breaks lexeme.Blank x rest rule h e = absurd cc
no_token_breaks lexeme.Comment x rest rule h e = absurd cc
no_token_breaks (lexeme.Plain k) x rest rule h e = absurd cc
no_token_breaks lexeme.Number x rest rule h e = absurd cc
no_token_breaks lexeme.Version x rest rule h e = absurd cc
no_token_breaks lexeme.Word x rest rule h e = word (keyword x) refl e
  where
    word : (o : Option Kind) → keyword x ≡ o → word_token o x ≡ Err rule → BreaksText rule (x ++ rest)
    word (Some k) is e = absurd cc
    word None is e =
        let bad = name_refuses ident x rule e in
        rw bad.0 (record { word = x; rest = rest; run = h; none = bad.1; way = inl (refl, is) })
no_token_breaks lexeme.Marked x rest rule ((y, is, run)) e =
    let bad = name_refuses explicit y rule (rw is at e) in
    rw bad.0 (record { word = y; rest = rest; run = run; none = bad.1; way = inr (ap (λ (t : Text). t ++ rest) is) })
