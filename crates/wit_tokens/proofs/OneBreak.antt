-- A text of the grammar breaks no rule of lexemes, and any other breaks one at one place.
use Rattle.std.proofs.Common.{◌≡◌, ℕ, ◌+◌, ◌-◌, ◌≤◌, true, eqb, List, [], ◌∷◌, ◌++◌, length, take, drop, Option, Some, None, Ok, Err, refl, sym, ap, subst, ◌∙◌, arith, inl, inr, length-append}
use Rattle.std.proofs.lemmas.Bool.{cases_Bool, eqb-true, and_parts}
use Rattle.std.proofs.lemmas.List.{take-append-drop, take_at, drop_at}
use Rattle.wit_words.specs.declared.fault.Rule.{Rule}
use Rattle.wit_words.specs.declared.fault.Rule.TheVariants as rules
use Rattle.wit_tokens.specs.declared.lex.Lexeme.{Lexeme}
use Rattle.wit_tokens.specs.declared.lex.Lexeme.TheVariants as lexeme
use Rattle.wit_words.specs.declared.source_map.Span.{Span}
use Rattle.wit_tokens.specs.Cause.{BreaksText, Passes, here, goes, IsBrokenText}
use Rattle.wit_words.specs.Identifier.{IsIdentifier, is_identifier}
use Rattle.wit_tokens.specs.Lex.{Text, Cut, Piece, Break, Reading, broken_span, comment_from, lexeme_at, piece_of, name_token, span_of, prepend, stops, mark, without_mark, read_bare, read}
use Rattle.wit_tokens.specs.Lexical.{begins, IsLexeme, IsComment, LexesText}
use Rattle.wit_words.specs.Token.{What, Tok, ident, explicit}
use Rattle.wit_tokens.proofs.Breaks.{lexeme_refuses}
use Rattle.wit_words.proofs.Identifiers.{decides}
use Rattle.wit_tokens.proofs.Lexemes.{lexeme_only, lexeme_found, lexeme_some, reads_lexeme, text_only}
use Rattle.wit_tokens.proofs.Readings.{some_break, some_same, marking, reads_behind}

-- ---- where a rule is broken, nothing is read

abbrev StopsAt : ℕ → Text → Rule → Type 0
StopsAt at z rule = read_bare at z ≡ stops rule (broken_span rule at z)

uncut : (at : ℕ) (z : Text) (rule : Rule) → 1 ≤ length z → lexeme_at z ≡ Err rule → StopsAt at z rule
unfolding read_bare
uncut at [] rule some e = absurd (omega arith)
uncut at (b ∷ z) rule some e = rw e refl

-- a lexeme stands there that is no token
no_piece : (at : ℕ) (l : Lexeme) (x rest : Text) (rule : Rule) → IsLexeme l x rest → piece_of l x ≡ Err rule → StopsAt at (x ++ rest) rule
no_piece at l x rest rule h e =
    let some = lexeme_some l x rest h in
    reads_lexeme at (x ++ rest) l (length x) (omega (arith, length-append x rest)) (lexeme_only l x rest h) some
    ∙ rw (take_at x rest (length x) refl, drop_at x rest (length x) refl, e) refl

no_name : (f : Text → What) (word : Text) → (IsIdentifier word → ⊥) → name_token f word ≡ Err rules.BadIdentifier
no_name f word none = elim (cases_Bool (is_identifier word)) [
  | inl is ↦ absurd (none ((decides word (is_identifier word) refl).0 is))
  | inr other ↦ rw other refl
]

opening : (z : Text) → begins 47 42 z ≡ true → (y : Text) × (z ≡ 47 ∷ 42 ∷ y)
opening [] e = absurd cc
opening (a ∷ []) e = absurd cc
opening (a ∷ b ∷ y) e = let both = and_parts (eqb a 47) (eqb b 42) e in (y, rw (eqb-true a 47 both.0, eqb-true b 42 both.1) refl)

second_same : (a b : ℕ) (y z : Text) → 47 ∷ a ∷ y ≡ 47 ∷ b ∷ z → a ≡ b
second_same a b y z e = cc

no_line : (y line : Text) → 47 ∷ 42 ∷ y ≡ 47 ∷ 47 ∷ line → ⊥
no_line y line e = omega (arith, second_same 42 47 y line e)

-- what an open comment begins with is no lexeme
never_closed : (y : Text) → ((x rest : Text) → 47 ∷ 42 ∷ y ≡ x ++ rest → IsComment x → ⊥) → (o : Option ℕ) → comment_from 1 0 0 y ≡ o → lexeme_at (47 ∷ 42 ∷ y) ≡ Err rules.OpenComment
unfolding lexeme_at
never_closed y none None is = rw is refl
never_closed y none (Some n) is =
    let z : Text = 47 ∷ 42 ∷ y in
    let cut : lexeme_at z ≡ Ok (lexeme.Comment, 2 + n) = rw is refl in
    elim (lexeme_found z lexeme.Comment (2 + n) cut) [
      | inl (line, is_line, run) ↦ absurd (no_line y (line ++ drop (2 + n) z) (sym (take-append-drop (2 + n) z) ∙ ap (λ (t : Text). t ++ drop (2 + n) z) is_line))
      | inr whole_one ↦ absurd (none (take (2 + n) z) (drop (2 + n) z) (sym (take-append-drop (2 + n) z)) whole_one)
    ]

break_stops : (at : ℕ) (z : Text) (rule : Rule) → BreaksText rule z → StopsAt at z rule
break_stops at z rules.BadCharacter h = cut (lexeme_at z) refl
  where
    cut : (c : Cut) → lexeme_at z ≡ c → StopsAt at z rules.BadCharacter
    cut (Ok x) is = absurd (h.no_lexeme x.0 (take x.1 z) (drop x.1 z) (sym (take-append-drop x.1 z)) (lexeme_found z x.0 x.1 is))
    cut (Err rule) is = elim (lexeme_refuses z rule h.some is) [
      | inl bad ↦ subst (λ r. StopsAt at z r) bad.0 (uncut at z rule h.some is)
      | inr open_one ↦ absurd (let no = h.no_comment in let yes = open_one.1 in cc)
    ]
break_stops at z rules.OpenComment h =
    let (y, is) = opening z h.opened in
    let never : (x rest : Text) → 47 ∷ 42 ∷ y ≡ x ++ rest → IsComment x → ⊥ = λ x rest parts. h.no_end x rest (is ∙ parts) in
    subst (λ t. StopsAt at t rules.OpenComment) (sym is) (uncut at (47 ∷ 42 ∷ y) rules.OpenComment (omega arith) (never_closed y never (comment_from 1 0 0 y) refl))
break_stops at z rules.BadIdentifier h = elim h.way [
  | inl (is, no_keyword) ↦ subst (λ t. StopsAt at t rules.BadIdentifier) (sym is) (no_piece at lexeme.Word h.word h.rest rules.BadIdentifier h.run (rw no_keyword (no_name ident h.word h.none)))
  | inr is ↦ subst (λ t. StopsAt at t rules.BadIdentifier) (sym is) (no_piece at lexeme.Marked (37 ∷ h.word) h.rest rules.BadIdentifier (h.word, refl, h.run) (no_name explicit h.word h.none))
]
break_stops at z _ h = absurd h

-- ---- and what stands in front is passed over

shorter : (text place : Text) → Passes text place → length place ≤ length text
shorter text place (here _) = omega arith
shorter text place (goes l x rest _ _ p parts h made more) = let below = shorter rest place more in omega (arith, below, ap length parts, length-append x rest)

passes_on : (at : ℕ) (l : Lexeme) (x rest : Text) (p : Piece) → IsLexeme l x rest → piece_of l x ≡ Ok p → (read_bare at (x ++ rest)).broken ≡ (read_bare (at + length x) rest).broken
passes_on at l x rest p h made =
    let some = lexeme_some l x rest h in
    let one = reads_lexeme at (x ++ rest) l (length x) (omega (arith, length-append x rest)) (lexeme_only l x rest h) some in
    let passed : read_bare at (x ++ rest) ≡ prepend (span_of l at x) p (read_bare (at + length x) rest) = one ∙ rw (take_at x rest (length x) refl, drop_at x rest (length x) refl, made) refl in
    ap (λ (r : Reading). r.broken) passed

-- the break of a rule at the front of a text that begins at a place
abbrev moved : Rule → Text → ℕ → Option Break
moved rule place at = Some (record { rule = rule; span = broken_span rule at place })

breaks_there : (at n : ℕ) (text place : Text) (rule : Rule) → Passes text place → BreaksText rule place → length text ≡ n + length place → (read_bare at text).broken ≡ moved rule place (at + n)
breaks_there at n text place rule (here _) h long =
    let same : at ≡ at + n = omega (arith, long) in
    ap (λ (r : Reading). r.broken) (break_stops at text rule h) ∙ ap (moved rule text) same
breaks_there at n text place rule (goes l x rest _ _ p parts is made more) h long =
    let below = shorter rest place more in
    let whole_length : length text ≡ length x + length rest = ap length parts ∙ length-append x rest in
    let left : length rest ≡ (n - length x) + length place = omega (arith, below, whole_length) in
    let there = breaks_there (at + length x) (n - length x) rest place rule more h left in
    let same : (at + length x) + (n - length x) ≡ at + n = omega (arith, below, whole_length) in
    rw parts (passes_on at l x rest p is made ∙ there ∙ ap (moved rule place) same)

pub text_breaks : (at : ℕ) (text : Text) (rule : Rule) (place : Span) → IsBrokenText at text rule place → (read at text).broken ≡ Some (record { rule = rule; span = place })
text_breaks at text rule place h =
    let long : length text ≡ length h.before + length h.place = ap length h.parts ∙ length-append h.before h.place in
    elim h.reached [
      | inl (rest, is, passed) ↦
          let below = shorter rest h.place passed in
          let marked : length text ≡ 3 + length rest = omega (arith, ap length is, length-append mark rest) in
          let left : length rest ≡ (length h.before - 3) + length h.place = omega (arith, below, marked, long) in
          let there = breaks_there (at + 3) (length h.before - 3) rest h.place rule passed h.breaks left in
          let same : (at + 3) + (length h.before - 3) ≡ at + length h.before = omega (arith, below, marked, long) in
          let behind : without_mark at text ≡ (at + 3, rest) = rw is refl in
          ap (λ (r : Reading). r.broken) (reads_behind at text (at + 3) rest behind) ∙ there ∙ ap (moved rule h.place) same ∙ ap (λ (s : Span). Some (record { rule = rule; span = s })) (sym h.lies)
      | inr (none, passed) ↦ elim (marking at text) [
        | inl (rest, parts, behind) ↦ absurd (none rest parts)
        | inr (also, behind) ↦
            ap (λ (r : Reading). r.broken) (reads_behind at text at text behind) ∙ breaks_there at (length h.before) text h.place rule passed h.breaks long
            ∙ ap (λ (s : Span). Some (record { rule = rule; span = s })) (sym h.lies)
      ]
    ]

-- ---- laws

-- a text breaks one rule of lexemes, and that at one place
pub one_break : (at : ℕ) (text : Text) (rule other : Rule) (place elsewhere : Span) → IsBrokenText at text rule place → IsBrokenText at text other elsewhere → (rule ≡ other) × (place ≡ elsewhere)
one_break at text rule other place elsewhere h k =
    let same = some_same (record { rule = rule; span = place }) (record { rule = other; span = elsewhere }) (sym (text_breaks at text rule place h) ∙ text_breaks at text other elsewhere k) in
    (ap (λ (b : Break). b.rule) same, ap (λ (b : Break). b.span) same)

-- and is no tokens
pub no_tokens : (at : ℕ) (text : Text) (rule : Rule) (place : Span) (ts : List Tok) → IsBrokenText at text rule place → LexesText at text ts → ⊥
no_tokens at text rule place ts h lexes = some_break (record { rule = rule; span = place }) (sym (text_breaks at text rule place h) ∙ ap (λ (r : Reading). r.broken) (text_only at text ts lexes))
