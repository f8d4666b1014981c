-- The tokens of a text one by one, and the fault that ends them.
use Rattle.std.specs.Prelude.{◌≡◌, ℕ, ◌⊎◌, List, [], ◌∷◌, ◌++◌, map, Option, Some, None, Result, Ok, Err}
use Rattle.wit_words.specs.declared.fault.Rule.{Rule}
use Rattle.wit_words.specs.declared.fault.SyntaxFault.{SyntaxFault}
use Rattle.wit_words.specs.declared.fault.SyntaxFault.TheVariants as faults
use Rattle.wit_words.specs.declared.source_map.Span.{Span}
use Rattle.wit_tokens.specs.declared.token_iterator.SpannedToken.{SpannedToken}
use Rattle.wit_tokens.specs.Cause.{IsBrokenText}
use Rattle.wit_tokens.specs.Lex.{Text, Break, Reading}
use Rattle.wit_tokens.specs.Lexical.{LexesText}
use Rattle.wit_words.specs.Token.{What, Tok, what}

-- a token, and where it stands
pub record Spanned : Type 0 where
  pub what : What
  pub span : Span

abbrev pub Item : Type 0
Item = Result Spanned SyntaxFault

-- an item without where it lies in memory
abbrev pub item : Result SpannedToken SyntaxFault → Item
item (Ok t) = Ok (record { what = what t.token; span = t.span })
item (Err e) = Err e

-- a token without its docs
abbrev pub given : Tok → Item
given t = Ok (record { what = t.what; span = t.span })

-- the text, which begins at a place, breaks a rule behind tokens, and these are the items
pub record AreStopped (at : ℕ) (text : Text) (items : List Item) : Type 0 where
  pub rule : Rule
  pub place : Span
  pub broken : IsBrokenText at text rule place
  pub tokens : List Tok
  pub front : LexesText at broken.before tokens
  pub parts : items ≡ map given tokens ++ Err (faults.Broken rule place) ∷ []

-- these are the items of a text that begins at a place: its tokens, or those up to where it breaks a rule and then the fault
abbrev pub AreItems : ℕ → Text → List Item → Type 0
AreItems at text items = ((ts : List Tok) × LexesText at text ts × (items ≡ map given ts)) ⊎ AreStopped at text items

-- ---- the same, from what reading gives

abbrev pub last : Option Break → List Item
last None = []
last (Some b) = Err (faults.Broken b.rule b.span) ∷ []

abbrev pub items_of : Reading → List Item
items_of r = map given r.tokens ++ last r.broken
