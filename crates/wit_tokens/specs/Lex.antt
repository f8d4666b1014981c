-- The lexeme at the front of a text, and the tokens that reading gives.
use Rattle.std.specs.Prelude.{◌≡◌, ℕ, zero, suc, take, drop, length, ◌+◌, ◌-◌, Bool, false, not, ◌&&◌, ◌||◌, if◌then◌else◌, ◌==◌, List, [], ◌∷◌, ◌++◌, Option, Some, None, Result, Ok, Err, bytes_eq, map}
use Rattle.std.specs.Char.{is_ascii_digit, is_ascii_alphabetic, is_ascii_alphanumeric}
use Rattle.std.specs.List.{prefix_len}
use Rattle.wit_words.specs.declared.fault.Rule.{Rule}
use Rattle.wit_words.specs.declared.fault.Rule.TheVariants.{BadCharacter, OpenComment, BadIdentifier}
use Rattle.wit_words.specs.declared.fault.SyntaxFault.{SyntaxFault}
use Rattle.wit_words.specs.declared.fault.SyntaxFault.TheVariants as faults
use Rattle.wit_tokens.specs.declared.lex.Class.{Class}
use Rattle.wit_tokens.specs.declared.lex.Class.TheVariants as class
use Rattle.wit_tokens.specs.declared.lex.Lexeme.{Lexeme}
use Rattle.wit_tokens.specs.declared.lex.Lexeme.TheVariants as lexeme
use Rattle.wit_words.specs.declared.source_map.Span.{Span}
use Rattle.wit_words.specs.declared.token.Kind.{Kind}
use Rattle.wit_words.specs.declared.token.Kind.TheVariants as kind
use Rattle.wit_tokens.specs.declared.tokens.Found.{Found}
use Rattle.wit_tokens.specs.declared.tokens.Kept.{Kept as KeptTokens}
use Rattle.wit_tokens.specs.declared.tokens.Found.TheVariants as found
use Rattle.wit_words.specs.Slice.{Slice}
use Rattle.wit_words.specs.Token.{What, Tok, plain, number, version, ident, explicit, what, comment, toks}
use Rattle.wit_words.specs.Version.{version_len}
use Rattle.wit_words.specs.Keyword.{keyword}
pub use Rattle.wit_words.specs.Version.{Text}
use Rattle.wit_words.specs.Identifier.{is_identifier}
use Rattle.wit_words.specs.Sources.{goes_on}

abbrev pub Cut : Type 0
Cut = Result (Lexeme × ℕ) Rule

abbrev pub is_in : Class → ℕ → Bool
is_in class.Blank b = b == 32 || b == 9 || b == 13 || b == 10
is_in class.Letter b = is_ascii_alphabetic b
is_in class.Digit b = is_ascii_digit b
is_in class.Word b = is_ascii_alphanumeric b || b == 45
is_in class.Line b = not (b == 10)
is_in class.Continuation b = goes_on b

-- where a comment ends that is open depth times, with the byte before, unless that was taken
abbrev pub comment_from : ℕ → ℕ → ℕ → Text → Option ℕ
comment_from depth last at [] = None
comment_from depth last at (b ∷ z) =
    if last == 42 && b == 47 then (if depth == 1 then Some (at + 1) else comment_from (depth - 1) 0 (at + 1) z)
    else if last == 47 && b == 42 then comment_from (depth + 1) 0 (at + 1) z
    else comment_from depth b (at + 1) z

abbrev pub closed : Option ℕ → Cut
closed (Some n) = Ok (lexeme.Comment, 2 + n)
closed None = Err OpenComment

abbrev pub slash : Text → Cut
slash [] = Ok (lexeme.Plain kind.Slash, 1)
slash (b ∷ z) =
    if b == 47 then Ok (lexeme.Comment, 2 + prefix_len (is_in class.Line) z)
    else if b == 42 then closed (comment_from 1 0 0 z)
    else Ok (lexeme.Plain kind.Slash, 1)

abbrev pub minus : Text → Cut
minus [] = Err BadCharacter
minus (b ∷ z) = if b == 62 then Ok (lexeme.Plain kind.RightArrow, 2) else Err BadCharacter

abbrev pub percent : Text → Cut
percent [] = Err BadCharacter
percent (b ∷ z) = if is_in class.Letter b then Ok (lexeme.Marked, 2 + prefix_len (is_in class.Word) z) else Err BadCharacter

abbrev pub sign : ℕ → Cut
sign b =
    if b == 61 then Ok (lexeme.Plain kind.Equals, 1) else if b == 44 then Ok (lexeme.Plain kind.Comma, 1)
    else if b == 58 then Ok (lexeme.Plain kind.Colon, 1) else if b == 46 then Ok (lexeme.Plain kind.Dot, 1)
    else if b == 59 then Ok (lexeme.Plain kind.Semicolon, 1) else if b == 40 then Ok (lexeme.Plain kind.LeftParenthesis, 1)
    else if b == 41 then Ok (lexeme.Plain kind.RightParenthesis, 1) else if b == 123 then Ok (lexeme.Plain kind.LeftBrace, 1)
    else if b == 125 then Ok (lexeme.Plain kind.RightBrace, 1) else if b == 60 then Ok (lexeme.Plain kind.LessThan, 1)
    else if b == 62 then Ok (lexeme.Plain kind.GreaterThan, 1) else if b == 64 then Ok (lexeme.Plain kind.At, 1)
    else if b == 95 then Ok (lexeme.Plain kind.Underscore, 1)
    else Err BadCharacter

-- the version at the front, or else the number
abbrev pub version_or_number : Option ℕ → Text → Cut
version_or_number (Some n) z = Ok (lexeme.Version, n)
version_or_number None z = Ok (lexeme.Number, prefix_len (is_in class.Digit) z)

abbrev pub digits : Text → Cut
digits z = version_or_number (version_len z) z

abbrev pub begins_with_digit : Text → Bool
begins_with_digit [] = false
begins_with_digit (b ∷ z) = is_in class.Digit b

unfoldable pub lexeme_at : Text → Cut
lexeme_at [] = Err BadCharacter
lexeme_at (b ∷ z) =
    if is_in class.Blank b then Ok (lexeme.Blank, 1)
    else if is_in class.Letter b then Ok (lexeme.Word, 1 + prefix_len (is_in class.Word) z)
    else if is_in class.Digit b then digits (b ∷ z)
    else if b == 47 then slash z
    else if b == 45 then minus z
    else if b == 37 then percent z
    else sign b

-- ---- what a lexeme is: nothing, docs of the token behind it, or a token

pub data Piece : Type 0 where
  nothing : Piece
  doc : Text → Piece
  token : What → Piece

-- a comment that begins `///`, or `/**` and isn't `/**/`, is docs
abbrev pub is_doc : Text → Bool
is_doc (a ∷ b ∷ c ∷ z) = a == 47 && ((b == 47 && c == 47) || (b == 42 && (c == 42 && not (bytes_eq z (47 ∷ [])))))
is_doc z = false

abbrev pub comment_piece : Text → Piece
comment_piece x = if is_doc x then doc x else nothing

-- an identifier, which is what this makes of its text
abbrev pub name_token : (Text → What) → Text → Result Piece Rule
name_token f x = if is_identifier x then Ok (token (f x)) else Err BadIdentifier

abbrev pub word_token : Option Kind → Text → Result Piece Rule
word_token (Some k) x = Ok (token (plain k))
word_token None x = name_token ident x

-- the text behind a first `%`
abbrev pub unmarked : Text → Text
unmarked [] = []
unmarked (b ∷ x) = if b == 37 then x else b ∷ x

abbrev pub piece_of : Lexeme → Text → Result Piece Rule
piece_of lexeme.Blank x = Ok nothing
piece_of lexeme.Comment x = Ok (comment_piece x)
piece_of (lexeme.Plain k) x = Ok (token (plain k))
piece_of lexeme.Number x = Ok (token (number x))
piece_of lexeme.Version x = Ok (token (version x))
piece_of lexeme.Word x = word_token (keyword x) x
piece_of lexeme.Marked x = name_token explicit (unmarked x)

-- ---- all tokens of a text, which begins at a place

abbrev pub and_then : {A B E : Type 0} → Result A E → (A → Result B E) → Result B E
and_then (Ok x) f = f x
and_then (Err e) f = Err e

-- where a lexeme says what it says: behind its `%`, if it has one
abbrev pub said_from : Lexeme → ℕ → ℕ
said_from lexeme.Marked at = at + 1
said_from _ at = at

-- the same, of a lexeme that begins at a place
abbrev pub span_of : Lexeme → ℕ → Text → Span
span_of l at x = record { start = said_from l at; end = at + length x }

abbrev pub behind : Span → Text → Piece → Result (Piece × Span × Text) Rule
behind span after p = Ok (p, span, after)

abbrev pub piece_at : ℕ → Text → Lexeme × ℕ → Result (Piece × Span × Text) Rule
piece_at at z x = and_then (piece_of x.0 (take x.1 z)) (behind (span_of x.0 at (take x.1 z)) (drop x.1 z))

-- what stands at the front of a text that begins at a place, where that is, and the text behind it
unfoldable pub piece : ℕ → Text → Result (Piece × Span × Text) Rule
piece at z = and_then (lexeme_at z) (piece_at at z)

-- docs belong to the token behind them; those behind the last token to none
abbrev pub with_doc : Slice → List Tok → List Tok
with_doc x [] = []
with_doc x (t ∷ ts) = record { docs = x ∷ t.docs; what = t.what; span = t.span } ∷ ts

-- the tokens, with something in front of them that stands at this place
abbrev pub put : Span → Piece → List Tok → List Tok
put span nothing ts = ts
put span (doc x) ts = with_doc (record { text = x; span = span }) ts
put span (token w) ts = record { docs = []; what = w; span = span } ∷ ts

-- how many bytes a break has at the front of a text: the character, the comment up to the text's end, or the word with its `%`
abbrev pub broken_len : Rule → Text → ℕ
broken_len BadCharacter (b ∷ z) = 1 + prefix_len (is_in class.Continuation) z
broken_len OpenComment z = length z
broken_len BadIdentifier (b ∷ z) = 1 + prefix_len (is_in class.Word) z
broken_len _ z = 0

-- where it lies in a text that begins at a place
unfoldable pub broken_span : Rule → ℕ → Text → Span
broken_span rule at z = record { start = at; end = at + broken_len rule z }

-- a rule, and where it is broken
pub record Break : Type 0 where
  pub rule : Rule
  pub span : Span

-- the tokens of a text, up to where a rule is broken, if one is
pub record Reading : Type 0 where
  pub tokens : List Tok
  pub broken : Option Break

-- nothing is left to be read
abbrev pub at_end : Reading
at_end = record { tokens = []; broken = None }

abbrev pub stops : Rule → Span → Reading
stops rule span = record { tokens = []; broken = Some (record { rule = rule; span = span }) }

abbrev pub prepend : Span → Piece → Reading → Reading
prepend span p r = record { tokens = put span p r.tokens; broken = r.broken }

abbrev pub read_piece : ℕ → Text → Span → Reading → Result Piece Rule → Reading
read_piece at z span next (Ok p) = prepend span p next
read_piece at z span next (Err rule) = stops rule (broken_span rule at z)

abbrev pub read_lexeme : ℕ → Text → (ℕ → Reading) → Cut → Reading
read_lexeme at z next (Ok x) = read_piece at z (span_of x.0 at (take x.1 z)) (next x.1) (piece_of x.0 (take x.1 z))
read_lexeme at z next (Err rule) = stops rule (broken_span rule at z)

-- The first number counts the bytes that are left of a lexeme, the second is where the one behind it begins.
abbrev pub read_from : ℕ → ℕ → Text → Reading
read_from left at [] = at_end
read_from (suc left) at (b ∷ z) = read_from left at z
read_from zero at (b ∷ z) = read_lexeme at (b ∷ z) (λ n. read_from (n - 1) (at + length (take n (b ∷ z))) z) (lexeme_at (b ∷ z))

unfoldable pub read_bare : ℕ → Text → Reading
read_bare at z = read_from 0 at z

-- the bytes of the byte order mark, U+FEFF
abbrev pub mark : Text
mark = 239 ∷ 187 ∷ 191 ∷ []

-- the text behind a byte order mark at its front, and where it begins
abbrev pub without_mark : ℕ → Text → ℕ × Text
without_mark at (a ∷ b ∷ c ∷ z) = if a == 239 && (b == 187 && c == 191) then (at + 3, z) else (at, a ∷ b ∷ c ∷ z)
without_mark at z = (at, z)

-- what reading a whole text gives
unfoldable pub read : ℕ → Text → Reading
read at z = read_bare (without_mark at z).0 (without_mark at z).1

abbrev pub found_piece : Found → Piece
found_piece found.Nothing = nothing
found_piece (found.Docs x) = doc x.now
found_piece (found.Token t) = token (what t)

-- a rule is broken at the front of a text that begins at a place
abbrev pub placed : {A : Type 0} → ℕ → Text → Result A Rule → Result A SyntaxFault
placed at z (Ok x) = Ok x
placed at z (Err rule) = Err (faults.Broken rule (broken_span rule at z))

-- what a reader of tokens returned, seen by view, is what reading gives, unless memory ran out
abbrev pub GivesReading : {X : Type 0} → (X → List Tok) → Result X SyntaxFault → Reading → Type 0
GivesReading view (Ok x) r = r ≡ record { tokens = view x; broken = None }
GivesReading view (Err faults.OutOfMemory) r = Unit {0}
GivesReading view (Err faults.TooLarge) r = ⊥
GivesReading view (Err (faults.Broken rule span)) r = r.broken ≡ Some (record { rule = rule; span = span })

-- ---- what the loop keeps: the tokens found, and the docs behind them

pub record Kept : Type 0 where
  pub tokens : List Tok
  pub docs : List Slice

abbrev pub kept : KeptTokens → Kept
kept k = record { tokens = toks k.tokens.items; docs = map comment k.docs.items }

-- with something more behind them
abbrev pub with_last : Kept → Span → Piece → Kept
with_last k span nothing = k
with_last k span (doc x) = record k { docs = k.docs ++ record { text = x; span = span } ∷ [] }
with_last k span (token w) = record { tokens = k.tokens ++ record { docs = k.docs; what = w; span = span } ∷ []; docs = [] }

abbrev pub with_docs : List Slice → List Tok → List Tok
with_docs ds [] = []
with_docs ds (t ∷ ts) = record { docs = ds ++ t.docs; what = t.what; span = t.span } ∷ ts

-- what reading a text gives whose front these are
abbrev pub with_front : Kept → Reading → Reading
with_front k r = record { tokens = k.tokens ++ with_docs k.docs r.tokens; broken = r.broken }
