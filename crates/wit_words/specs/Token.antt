-- A token without where it lies in memory.
use Rattle.std.specs.Prelude.{ℕ, Bool, List, map}
use denote.Enum.Bare.{sameb}
use Rattle.wit_words.specs.contracts.token.Kind.{the_type}
use Rattle.wit_words.specs.declared.source_map.Span.{Span}
use Rattle.wit_words.specs.declared.token.Kind.{Kind}
use Rattle.wit_words.specs.declared.token.Token.{Token}
use Rattle.wit_words.specs.declared.token.Token.TheVariants.{Plain, Number, Version, Id, ExplicitId}
use Rattle.wit_words.specs.declared.token.Comment.{Comment}
use Rattle.wit_words.specs.declared.token.DocumentedToken.{DocumentedToken}
use Rattle.wit_words.specs.Slice.{Slice}

-- a sign or keyword, the digits of a number, a version, an identifier, or one behind a `%`
pub data What : Type 0 where
  plain : Kind → What
  number : List ℕ → What
  version : List ℕ → What
  ident : List ℕ → What
  explicit : List ℕ → What

-- a token, where it stands, without a `%` in front of it, and the docs before it, in order: comments as they stand in the text
pub record Tok : Type 0 where
  pub docs : List Slice
  pub what : What
  pub span : Span

abbrev pub what : Token → What
what (Plain k) = plain k
what (Number s) = number s.now
what (Version s) = version s.now
what (Id s) = ident s.now
what (ExplicitId s) = explicit s.now

abbrev pub comment : Comment → Slice
comment c = record { text = c.text.now; span = c.span }

abbrev pub tok : DocumentedToken → Tok
tok t = record { docs = map comment t.docs.items; what = what t.token; span = t.span }

abbrev pub toks : List DocumentedToken → List Tok
toks ts = map tok ts

-- `==` on kinds
unfoldable pub same_kind : Kind → Kind → Bool
same_kind = sameb the_type
