-- Going over a text token by token.
use Rattle.std.proofs.Common.{◌≡◌, ℕ, zero, suc, ◌+◌, ◌<◌, ◌≤◌, ◌⊎◌, List, [], ◌∷◌, ◌++◌, length, map, Option, Some, None, Ok, Err, refl, sym, ap, subst, ◌∙◌, arith, inl, inr, append-nil, length-append}
use denote.Ref.{Bor}
use Rattle.wit_words.specs.declared.fault.SyntaxFault.{SyntaxFault}
use Rattle.wit_words.specs.declared.source_map.Span.{Span}
use Rattle.wit_words.specs.declared.token.Token.{Token}
use Rattle.wit_tokens.specs.declared.tokens.Found.{Found}
use Rattle.wit_tokens.specs.declared.tokens.Found.TheVariants as found
use Rattle.wit_tokens.specs.Items.{Item, item, given, last, items_of, AreItems}
use Rattle.wit_tokens.specs.Lex.{Text, Piece, nothing, doc, token, piece, span_of, placed, prepend, found_piece, Break, Reading, without_mark, read_bare, read}
use Rattle.wit_tokens.specs.Lexical.{LexesText}
use Rattle.wit_words.specs.Token.{Tok}
use Rattle.wit_tokens.proofs.Lexemes.{text_only}
use Rattle.wit_tokens.proofs.LexLaws.{reads_piece, reads_break, reads_end}
use Rattle.wit_tokens.proofs.Readings.{first, lexes, breaks, reads_behind, text_found, text_broken}

-- the items, with something in front of them
abbrev onto : Span → Piece → List Item → List Item
onto span nothing items = items
onto span (doc x) items = items
onto span (token w) items = Ok (record { what = w; span = span }) ∷ items

onto_prepend : (span : Span) (p : Piece) (ts : List Tok) (b : Option Break) → items_of (prepend span p (record { tokens = ts; broken = b })) ≡ onto span p (map given ts ++ last b)
onto_prepend span nothing ts b = refl
onto_prepend span (doc x) [] b = refl
onto_prepend span (doc x) (t ∷ ts) b = refl
onto_prepend span (token w) ts b = refl

items_go : (at : ℕ) (z : Text) (p : Piece) (span : Span) (after : Text) (total : List Item) → length after < length z → placed at z (piece at z) ≡ Ok (p, span, after)
    → items_of (read_bare at z) ≡ total → total ≡ onto span p (items_of (read_bare span.end after))
items_go at z p span after total moves e so_far =
    let rest = read_bare span.end after in
    sym so_far ∙ ap items_of (reads_piece at z p span after moves e) ∙ onto_prepend span p rest.tokens rest.broken

abbrev ending : List Item → SyntaxFault → List Item
ending items e = Err e ∷ items

pub items_break : (at : ℕ) (z : Text) (e : SyntaxFault) (total : List Item) → 0 < length z → placed at z (piece at z) ≡ Err e → items_of (read_bare at z) ≡ total → total ≡ Err e ∷ items_of (read_bare at [])
items_break at z e total some h so_far =
    let (rule, is, stopped) = reads_break at z e some h in
    sym so_far ∙ ap items_of stopped ∙ ap (ending []) (sym is) ∙ ap (λ (r : Reading). ending (items_of r) e) (sym (reads_end at [] refl))

-- what is no token is passed over
pub items_pass : (at : ℕ) (z : Text) (f : Found) (span : Span) (after : Text) (total : List Item) → length after < length z → placed at z (piece at z) ≡ Ok (found_piece f, span, after)
    → (f ≡ found.Nothing) ⊎ ((x : Bor Text) × (f ≡ found.Docs x)) → items_of (read_bare at z) ≡ total → items_of (read_bare span.end after) ≡ total
items_pass at z f span after total moves e (inl none) so_far =
    sym (items_go at z (found_piece f) span after total moves e so_far ∙ ap (λ (g : Found). onto span (found_piece g) (items_of (read_bare span.end after))) none)
items_pass at z f span after total moves e (inr (x, docs)) so_far =
    sym (items_go at z (found_piece f) span after total moves e so_far ∙ ap (λ (g : Found). onto span (found_piece g) (items_of (read_bare span.end after))) docs)

pub items_token : (at : ℕ) (z : Text) (f : Found) (t : Token) (span : Span) (after : Text) (total : List Item) → length after < length z → placed at z (piece at z) ≡ Ok (found_piece f, span, after)
    → f ≡ found.Token t → items_of (read_bare at z) ≡ total → total ≡ item (Ok (record { token = t; span = span })) ∷ items_of (read_bare span.end after)
items_token at z f t span after total moves e is so_far =
    items_go at z (found_piece f) span after total moves e so_far ∙ ap (λ (g : Found). onto span (found_piece g) (items_of (read_bare span.end after))) is

pub items_end : (at : ℕ) (z : Text) (total : List Item) → length z ≡ 0 → items_of (read_bare at z) ≡ total → total ≡ []
items_end at z total none so_far = sym so_far ∙ ap items_of (reads_end at z none)

items_found : (at : ℕ) (text : Text) → AreItems at text (items_of (read at text))
items_found at text = known (read at text) refl
  where
    known : (r : Reading) → read at text ≡ r → AreItems at text (items_of r)
    known r is = ending r.broken refl
      where
        ending : (b : Option Break) → r.broken ≡ b → AreItems at text (map given r.tokens ++ last b)
        ending None e = inl (r.tokens, text_found at text r is e, append-nil (map given r.tokens))
        ending (Some b) e =
            let s = text_broken at text r b is e in
            inr (record { rule = b.rule; place = b.span; broken = s.broken; tokens = r.tokens; front = s.front; parts = refl })

onto_few : (span : Span) (p : Piece) (items : List Item) → length (onto span p items) ≤ 1 + length items
onto_few span nothing items = omega arith
onto_few span (doc x) items = omega arith
onto_few span (token w) items = omega arith

-- each item has a byte of its own; the number is at least the text's length
items_few : (n at : ℕ) (z : Text) → length z ≤ n → length (items_of (read_bare at z)) ≤ length z
items_few n at [] fits = let none = ap (λ (r : Reading). length (items_of r)) (reads_end at [] refl) in omega arith
items_few zero at (b ∷ z) fits = absurd (omega arith)
items_few (suc n) at (b ∷ z) fits = elim (first at (b ∷ z) (omega arith)) [
  | lexes place y l x rest p parts some h made reads ↦
      let next = read_bare (place + length x) rest in
      let whole_length = ap length parts in
      let shorter : length rest ≤ n = omega (arith, whole_length, length-append x rest) in
      let few = items_few n (place + length x) rest shorter in
      let same = ap (λ (r : Reading). length (items_of r)) reads ∙ ap (length {A = Item}) (onto_prepend (span_of l place x) p next.tokens next.broken) in
      omega (arith, whole_length, length-append x rest, onto_few (span_of l place x) p (items_of next))
  | breaks place y rule h reads ↦ let same = ap (λ (r : Reading). length (items_of r)) reads in omega arith
]

-- the items of what is left behind a byte order mark are those of the text
module _ (at : ℕ) (text : Text) (start : ℕ) (rest : Text) (behind : without_mark at text ≡ (start, rest)) where
  pub new_items : AreItems at text (items_of (read_bare start rest))
  new_items = subst (λ (r : Reading). AreItems at text (items_of r)) (reads_behind at text start rest behind) (items_found at text)

  pub new_tokens : (ts : List Tok) → LexesText at text ts → items_of (read_bare start rest) ≡ map given ts
  new_tokens ts h = ap items_of (sym (reads_behind at text start rest behind) ∙ text_only at text ts h) ∙ append-nil (map given ts)

  pub new_few : start + length rest ≡ at + length text → at ≤ start → length (items_of (read_bare start rest)) ≤ length text
  new_few fits moves = omega (arith, items_few (length rest) start rest (omega arith))
