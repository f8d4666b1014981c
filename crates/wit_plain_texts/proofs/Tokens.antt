-- Tokens of a text that are names have no marks.
use Rattle.std.proofs.Common.{◌≡◌, ℕ, Bool, true, false, List, [], ◌∷◌, ◌++◌, inl, inr, Option, Some, None, Result, Ok, Err, refl, sym, subst, ap, ◌∙◌}
use Rattle.std.specs.List.{AllByRecursion as Each}
use Rattle.std.specs.Prelude.{if◌then◌else◌}
use Rattle.wit_words.specs.declared.fault.Rule.{Rule}
use Rattle.wit_words.specs.declared.fault.Rule.TheVariants.{BadIdentifier}
use Rattle.wit_words.specs.declared.source_map.Span.{Span}
use Rattle.wit_words.specs.declared.token.Kind.{Kind}
use Rattle.wit_words.specs.Identifier.{is_identifier}
use Rattle.wit_words.specs.Keyword.{keyword}
use Rattle.wit_words.specs.Token.{What, Tok, plain, number, version, ident, explicit}
use Rattle.wit_tokens.specs.declared.lex.Lexeme.{Lexeme}
use Rattle.wit_tokens.specs.declared.lex.Lexeme.TheVariants as lexeme
use Rattle.wit_tokens.specs.Lex.{Text, Piece, nothing, doc, token, is_doc, comment_piece, name_token, word_token, unmarked, piece_of, with_doc, put}
use Rattle.wit_tokens.specs.Lexical.{span_of, Adds, Lexes, ends, goes, LexesText}
use Rattle.wit_plain_texts.specs.Plain.{IsPlain}
use Rattle.wit_plain_texts.proofs.Bytes.{identifiers_are_plain}

abbrev pub SaysPlain : What → Type 0
SaysPlain (ident s) = IsPlain s
SaysPlain (explicit s) = IsPlain s
SaysPlain (plain k) = Unit {0}
SaysPlain (number s) = Unit {0}
SaysPlain (version s) = Unit {0}

abbrev pub ArePlain : List Tok → Type 0
ArePlain ts = Each (λ (t : Tok). SaysPlain t.what) ts

-- what stands in front of tokens
abbrev IsPlainPiece : Piece → Type 0
IsPlainPiece nothing = Unit {0}
IsPlainPiece (doc x) = Unit {0}
IsPlainPiece (token w) = SaysPlain w

name_plain : (f : Text → What) (x : Text) (b : Bool) (p : Piece) → is_identifier x ≡ b → (IsPlain x → SaysPlain (f x)) → (if b then Ok (token (f x)) else Err BadIdentifier) ≡ Ok p → IsPlainPiece p
name_plain f x true p e says h = (let same : token (f x) ≡ p = cc in subst IsPlainPiece same (says (identifiers_are_plain x e)))
name_plain f x false p e says h = absurd cc

word_plain : (k : Option Kind) (x : Text) (p : Piece) → word_token k x ≡ Ok p → IsPlainPiece p
word_plain (Some k) x p h = (let same : token (plain k) ≡ p = cc in subst IsPlainPiece same tt)
word_plain None x p h = name_plain ident x (is_identifier x) p refl (λ is. is) h

comment_plain : (b : Bool) (x : Text) (p : Piece) → (if b then doc x else nothing) ≡ p → IsPlainPiece p
comment_plain true x p h = subst IsPlainPiece h tt
comment_plain false x p h = subst IsPlainPiece h tt

piece_plain : (l : Lexeme) (x : Text) (p : Piece) → piece_of l x ≡ Ok p → IsPlainPiece p
piece_plain lexeme.Blank x p h = (let same : nothing ≡ p = cc in subst IsPlainPiece same tt)
piece_plain lexeme.Comment x p h = comment_plain (is_doc x) x p (let same : comment_piece x ≡ p = cc in same)
piece_plain (lexeme.Plain k) x p h = (let same : token (plain k) ≡ p = cc in subst IsPlainPiece same tt)
piece_plain lexeme.Number x p h = (let same : token (number x) ≡ p = cc in subst IsPlainPiece same tt)
piece_plain lexeme.Version x p h = (let same : token (version x) ≡ p = cc in subst IsPlainPiece same tt)
piece_plain lexeme.Word x p h = word_plain (keyword x) x p h
piece_plain lexeme.Marked x p h = name_plain explicit (unmarked x) (is_identifier (unmarked x)) p refl (λ is. is) h

put_plain : (span : Span) (p : Piece) (ts : List Tok) → IsPlainPiece p → ArePlain ts → ArePlain (put span p ts)
put_plain span nothing ts is are = are
put_plain span (doc x) [] is are = are
put_plain span (doc x) (t ∷ ts) is are = are
put_plain span (token w) ts is are = (is, are)

added_plain : (span : Span) (r : Result Piece Rule) (ts us : List Tok) → ((p : Piece) → r ≡ Ok p → IsPlainPiece p) → Adds span r ts us → ArePlain ts → ArePlain us
added_plain span (Ok p) ts us is h are = subst ArePlain (sym h) (put_plain span p ts (is p refl) are)
added_plain span (Err rule) ts us is h are = absurd h

lexed_plain : (at : ℕ) (text : Text) (ts : List Tok) → Lexes at text ts → ArePlain ts
lexed_plain at text ts (ends _) = tt
lexed_plain at text us (goes _ l x rest _ ts _ parts is more adds) = added_plain (span_of l at x) (piece_of l x) ts us (piece_plain l x) adds (lexed_plain _ rest ts more)

pub text_plain : (at : ℕ) (text : Text) (ts : List Tok) → LexesText at text ts → ArePlain ts
text_plain at text ts (inl (rest, marked, lexes)) = lexed_plain _ rest ts lexes
text_plain at text ts (inr lexes) = lexed_plain at text ts lexes
