-- Tokens and docs are slices of the text, at their places.
use Rattle.std.proofs.Common.{◌≡◌, ℕ, ◌+◌, List, [], ◌∷◌, ◌++◌, length, Option, Some, None, Result, Ok, Err, refl, sym, ap, subst, ◌∙◌, arith, inl, inr, append_assoc, length-append}
use Rattle.std.specs.List.{AllByRecursion as Each}
use Rattle.std.proofs.lemmas.Bool.{cases_Bool}
use Rattle.wit_words.specs.declared.fault.Rule.{Rule}
use Rattle.wit_tokens.specs.declared.lex.Lexeme.{Lexeme}
use Rattle.wit_tokens.specs.declared.lex.Lexeme.TheVariants as lexeme
use Rattle.wit_words.specs.declared.source_map.Span.{Span}
use Rattle.wit_words.specs.declared.token.Kind.{Kind}
use Rattle.wit_words.specs.Identifier.{is_identifier}
use Rattle.wit_words.specs.Keyword.{keyword}
use Rattle.wit_tokens.specs.Lex.{Text, Piece, nothing, doc, token, is_doc, word_token, piece_of, span_of, put, mark}
use Rattle.wit_tokens.specs.Lexical.{IsLexeme, Adds, Lexes, LexesText, ends, goes}
use Rattle.wit_words.specs.Slice.{Slice, StandsIn}
use Rattle.wit_tokens.specs.Stands.{Says, IsInPlace}
use Rattle.wit_words.specs.Token.{Tok}
use Rattle.wit_tokens.proofs.Readings.{cut_sign}

abbrev slice : Text → ℕ → ℕ → Slice
slice x start end = record { text = x; span = record { start = start; end = end } }

-- ---- what a lexeme is

abbrev PieceStands : ℕ → Text → Span → Result Piece Rule → Type 0
PieceStands at text span (Ok nothing) = Unit {0}
PieceStands at text span (Ok (doc x)) = StandsIn at text (record { text = x; span = span })
PieceStands at text span (Ok (token w)) = (x : Text) × Says x w × StandsIn at text (record { text = x; span = span })
PieceStands at text span (Err rule) = Unit {0}

in_front : (at : ℕ) (x rest : Text) → StandsIn at (x ++ rest) (slice x at (at + length x))
in_front at x rest = record { before = []; behind = rest; parts = refl; start = omega arith; end = refl }

piece_stands : (at : ℕ) (l : Lexeme) (x rest : Text) → IsLexeme l x rest → PieceStands at (x ++ rest) (span_of l at x) (piece_of l x)
piece_stands at lexeme.Blank x rest h = tt
piece_stands at lexeme.Comment x rest h = elim (cases_Bool (is_doc x)) [ inl is ↦ rw is (in_front at x rest) | inr other ↦ rw other tt ]
piece_stands at (lexeme.Plain k) x rest h = (x, inr (cut_sign k x [] rest h), in_front at x rest)
piece_stands at lexeme.Number x rest h = (x, refl, in_front at x rest)
piece_stands at lexeme.Version x rest h = (x, refl, in_front at x rest)
piece_stands at lexeme.Word x rest h = word (keyword x) refl
  where
    word : (o : Option Kind) → keyword x ≡ o → PieceStands at (x ++ rest) (span_of lexeme.Word at x) (word_token o x)
    word (Some k) is = (x, inl is, in_front at x rest)
    word None is = elim (cases_Bool (is_identifier x)) [ inl good ↦ rw good (x, refl, in_front at x rest) | inr bad ↦ rw bad tt ]
piece_stands at lexeme.Marked x rest ((y, is, h)) = rw is (elim (cases_Bool (is_identifier y)) [
  | inl good ↦ rw good (y, refl, record { before = 37 ∷ []; behind = rest; parts = refl; start = refl; end = omega arith })
  | inr bad ↦ rw bad tt
])

-- ---- behind something else

behind : (at : ℕ) (x rest : Text) (s : Slice) → StandsIn (at + length x) rest s → StandsIn at (x ++ rest) s
behind at x rest s h = record {
  before = x ++ h.before;
  behind = h.behind;
  parts = ap (λ (t : Text). x ++ t) h.parts ∙ sym (append_assoc x h.before (s.text ++ h.behind));
  start = h.start ∙ omega (arith, length-append x h.before);
  end = h.end;
}

each_behind : (at : ℕ) (x rest : Text) (ss : List Slice) → Each (StandsIn (at + length x) rest) ss → Each (StandsIn at (x ++ rest)) ss
each_behind at x rest [] h = tt
each_behind at x rest (s ∷ ss) h = (behind at x rest s h.0, each_behind at x rest ss h.1)

token_behind : (at : ℕ) (x rest : Text) (t : Tok) → IsInPlace (at + length x) rest t → IsInPlace at (x ++ rest) t
token_behind at x rest t h = record { said = h.said; says = h.says; stands = behind at x rest _ h.stands; docs = each_behind at x rest t.docs h.docs }

tokens_behind : (at : ℕ) (x rest : Text) (ts : List Tok) → Each (IsInPlace (at + length x) rest) ts → Each (IsInPlace at (x ++ rest)) ts
tokens_behind at x rest [] h = tt
tokens_behind at x rest (t ∷ ts) h = (token_behind at x rest t h.0, tokens_behind at x rest ts h.1)

-- ---- all tokens

put_stands : (at : ℕ) (text : Text) (span : Span) (p : Piece) (ts : List Tok) → PieceStands at text span (Ok p) → Each (IsInPlace at text) ts → Each (IsInPlace at text) (put span p ts)
put_stands at text span nothing ts h each = each
put_stands at text span (doc x) [] h each = tt
put_stands at text span (doc x) (t ∷ ts) h each = (record { said = each.0.said; says = each.0.says; stands = each.0.stands; docs = (h, each.0.docs) }, each.1)
put_stands at text span (token w) ts h each = (record { said = h.0; says = h.1; stands = h.2; docs = tt }, each)

added_stands : (at : ℕ) (text : Text) (span : Span) (o : Result Piece Rule) (ts us : List Tok) → Adds span o ts us → PieceStands at text span o → Each (IsInPlace at text) ts → Each (IsInPlace at text) us
added_stands at text span (Ok p) ts us added h each = subst (λ (vs : List Tok). Each (IsInPlace at text) vs) (sym added) (put_stands at text span p ts h each)
added_stands at text span (Err rule) ts us added h each = absurd added

lexed_stands : {at : ℕ} {text : Text} {ts : List Tok} → Lexes at text ts → Each (IsInPlace at text) ts
lexed_stands (ends at) = tt
lexed_stands (goes at l x rest text ts us is h more added) =
    subst (λ (t : Text). Each (IsInPlace at t) us) (sym is)
    (added_stands at (x ++ rest) (span_of l at x) (piece_of l x) ts us added (piece_stands at l x rest h) (tokens_behind at x rest ts (lexed_stands more)))

pub tokens_stand : (at : ℕ) (text : Text) (ts : List Tok) → LexesText at text ts → Each (IsInPlace at text) ts
tokens_stand at text ts (inl (rest, is, h)) = subst (λ (t : Text). Each (IsInPlace at t) ts) (sym is) (tokens_behind at mark rest ts (lexed_stands h))
tokens_stand at text ts (inr h) = lexed_stands h
