-- What reading a text gives is what stands in it.
use Rattle.std.proofs.Common.{◌≡◌, ℕ, zero, suc, ◌+◌, ◌≤◌, ◌⊎◌, eqb, List, [], ◌∷◌, ◌++◌, length, take, drop, Some, None, Result, Ok, Err, refl, sym, ap, subst, ◌∙◌, arith, inl, inr, append_assoc, length-append, length-take, take-append-drop}
use Rattle.std.specs.Prelude.{IfOk, IfErr}
use Rattle.std.proofs.lemmas.Bool.{cases_Bool, eqb-true}
use Rattle.wit_words.specs.declared.fault.Rule.{Rule}
use Rattle.wit_words.specs.declared.fault.SyntaxFault.{SyntaxFault}
use Rattle.wit_words.specs.declared.fault.SyntaxFault.TheVariants as faults
use Rattle.wit_tokens.specs.declared.lex.Class.{Class}
use Rattle.wit_tokens.specs.declared.lex.Class.TheVariants as class
use Rattle.wit_tokens.specs.declared.lex.Lexeme.{Lexeme}
use Rattle.wit_tokens.specs.declared.lex.Lexeme.TheVariants as lexeme
use Rattle.wit_words.specs.declared.source_map.Span.{Span}
use Rattle.wit_words.specs.declared.token.Kind.{Kind}
use Rattle.wit_words.specs.declared.token.Kind.TheVariants as kind
use Rattle.wit_tokens.specs.Cause.{BreaksText, Passes, here, goes as passes, IsBrokenText, IsLexFault}
use Rattle.wit_tokens.specs.Lex.{Text, Cut, Piece, Break, Reading, broken_span, lexeme_at, piece_of, span_of, put, stops, prepend, mark, without_mark, read_bare, read, GivesReading}
use Rattle.wit_tokens.specs.Lexical.{IsRun, Starts, IsSign, IsLexeme, Adds, Lexes, LexesText, ends, goes}
use Rattle.wit_words.specs.Token.{Tok}
use Rattle.wit_tokens.proofs.Breaks.{no_lexeme_breaks, no_token_breaks}
use Rattle.wit_tokens.proofs.LexLaws.{reads_end}
use Rattle.wit_tokens.proofs.Lexemes.{reads_lexeme, lexeme_found, lexeme_some, whole}

-- what reading does first: it passes over a lexeme, or stops
pub data First : ℕ → Text → Type 0 where
  lexes : (at : ℕ) (z : Text) (l : Lexeme) (x rest : Text) (p : Piece) → z ≡ x ++ rest → 1 ≤ length x → IsLexeme l x rest → piece_of l x ≡ Ok p
      → read_bare at z ≡ prepend (span_of l at x) p (read_bare (at + length x) rest) → First at z
  breaks : (at : ℕ) (z : Text) (rule : Rule) → BreaksText rule z → read_bare at z ≡ stops rule (broken_span rule at z) → First at z

pub first : (at : ℕ) (z : Text) → 1 ≤ length z → First at z
unfolding read_bare
first at [] some = absurd (omega arith)
first at (b ∷ z) some = cut (lexeme_at (b ∷ z)) refl
  where
    made : (l : Lexeme) (n : ℕ) → lexeme_at (b ∷ z) ≡ Ok (l, n) → IsLexeme l (take n (b ∷ z)) (drop n (b ∷ z)) → 1 ≤ n
        → (o : Result Piece Rule) → piece_of l (take n (b ∷ z)) ≡ o → First at (b ∷ z)
    made l n is h long (Ok p) o-is =
        lexes at (b ∷ z) l (take n (b ∷ z)) (drop n (b ∷ z)) p (sym (take-append-drop n (b ∷ z))) (omega (arith, length-take n (b ∷ z))) h o-is
        (reads_lexeme at (b ∷ z) l n some is long ∙ rw o-is refl)
    made l n is h long (Err rule) o-is =
        breaks at (b ∷ z) rule (subst (λ t. BreaksText rule t) (take-append-drop n (b ∷ z)) (no_token_breaks l (take n (b ∷ z)) (drop n (b ∷ z)) rule h o-is))
        (reads_lexeme at (b ∷ z) l n some is long ∙ rw o-is refl)

    cut : (c : Cut) → lexeme_at (b ∷ z) ≡ c → First at (b ∷ z)
    cut (Ok x) is =
        let h = lexeme_found (b ∷ z) x.0 x.1 is in
        made x.0 x.1 is h (omega (arith, lexeme_some x.0 (take x.1 (b ∷ z)) (drop x.1 (b ∷ z)) h, length-take x.1 (b ∷ z))) (piece_of x.0 (take x.1 (b ∷ z))) refl
    cut (Err rule) is = breaks at (b ∷ z) rule (no_lexeme_breaks (b ∷ z) rule some is) (rw is refl)

-- ---- a text with no byte order mark

adds : (span : Span) (p : Piece) (o : Result Piece Rule) (ts : List Tok) → o ≡ Ok p → Adds span o ts (put span p ts)
adds span p o ts is = rw is refl

pub some_break : (b : Break) → Some b ≡ None → ⊥
some_break b e = absurd cc

-- where no rule is broken; the number is at least the text's length
lexes_found : (n at : ℕ) (z : Text) (r : Reading) → length z ≤ n → read_bare at z ≡ r → r.broken ≡ None → Lexes at z r.tokens
lexes_found n at [] r fits is e = subst (λ (q : Reading). Lexes at [] q.tokens) (sym (reads_end at [] refl) ∙ is) (ends at)
lexes_found zero at (b ∷ z) r fits is e = absurd (omega arith)
lexes_found (suc n) at (b ∷ z) r fits is e = elim (first at (b ∷ z) (omega arith)) [
  | lexes place y l x rest p parts some h made reads ↦
      let next = read_bare (place + length x) rest in
      let same : prepend (span_of l place x) p next ≡ r = sym reads ∙ is in
      let shorter : length rest ≤ n = omega (arith, ap length parts, length-append x rest) in
      let more = lexes_found n (place + length x) rest next shorter refl (ap (λ (q : Reading). q.broken) same ∙ e) in
      subst (λ (q : Reading). Lexes place y q.tokens) same
      (goes place l x rest y next.tokens (put (span_of l place x) p next.tokens) parts h more (adds (span_of l place x) p (piece_of l x) next.tokens made))
  | breaks place y rule h reads ↦ absurd (some_break (record { rule = rule; span = broken_span rule place y }) (ap (λ (q : Reading). q.broken) (sym reads ∙ is) ∙ e))
]

-- ---- where a rule is broken

cut_run : (c : Class) (x rest more : Text) → IsRun c x (rest ++ more) → IsRun c x rest
cut_run c x [] more h = (h.0, tt)
cut_run c x (b ∷ rest) more h = h

cut_starts : (c d : Class) (x rest more : Text) → Starts c d x (rest ++ more) → Starts c d x rest
cut_starts c d [] rest more h = absurd h
cut_starts c d (b ∷ x) rest more h = (h.0, cut_run d x rest more h.1)

pub cut_sign : (k : Kind) (x rest more : Text) → IsSign k x (rest ++ more) → IsSign k x rest
cut_sign kind.Slash x [] more h = (h.0, tt)
cut_sign kind.Slash x (b ∷ rest) more h = h
cut_sign kind.Equals x rest more h = h
cut_sign kind.Comma x rest more h = h
cut_sign kind.Colon x rest more h = h
cut_sign kind.Dot x rest more h = h
cut_sign kind.Semicolon x rest more h = h
cut_sign kind.LeftParenthesis x rest more h = h
cut_sign kind.RightParenthesis x rest more h = h
cut_sign kind.LeftBrace x rest more h = h
cut_sign kind.RightBrace x rest more h = h
cut_sign kind.LessThan x rest more h = h
cut_sign kind.GreaterThan x rest more h = h
cut_sign kind.At x rest more h = h
cut_sign kind.Underscore x rest more h = h
cut_sign kind.RightArrow x rest more h = h
cut_sign _ x rest more h = absurd h

-- a lexeme is one too where the text ends sooner behind it
cut_lexeme : (l : Lexeme) (x rest more : Text) → IsLexeme l x (rest ++ more) → IsLexeme l x rest
cut_lexeme lexeme.Blank x rest more h = h
cut_lexeme lexeme.Comment x rest more (inl (y, is, run)) = inl (y, is, cut_run class.Line y rest more run)
cut_lexeme lexeme.Comment x rest more (inr whole_one) = inr whole_one
cut_lexeme (lexeme.Plain k) x rest more h = cut_sign k x rest more h
cut_lexeme lexeme.Number x rest more h =
    (cut_starts class.Digit class.Digit x rest more h.0, λ y behind is. h.1 y (behind ++ more) (sym (append_assoc x rest more) ∙ ap (λ (t : Text). t ++ more) is ∙ append_assoc y behind more))
cut_lexeme lexeme.Version x rest more h =
    record { version = h.version; longest = λ y behind is. h.longest y (behind ++ more) (ap (λ (t : Text). t ++ more) is ∙ append_assoc y behind more) }
cut_lexeme lexeme.Word x rest more h = cut_starts class.Letter class.Word x rest more h
cut_lexeme lexeme.Marked x rest more ((y, is, h)) = (y, is, cut_starts class.Letter class.Word y rest more h)

-- the same place, counted in two ways
further : (at : ℕ) (x y : Text) → (at + length x) + length y ≡ at + length (x ++ y)
further at x y = omega (arith, length-append x y)

here_already : (at : ℕ) → at ≡ at + 0
here_already at = omega arith

-- the text is these tokens up to where a rule is broken
record StopsThere (at : ℕ) (z : Text) (ts : List Tok) (b : Break) : Type 0 where
  before : Text
  place : Text
  parts : z ≡ before ++ place
  passed : Passes z place
  front : Lexes at before ts
  lies : b.span ≡ broken_span b.rule (at + length before) place
  broken : BreaksText b.rule place

pub some_same : (b c : Break) → Some b ≡ Some c → b ≡ c
some_same b c e = cc

break_found : (n at : ℕ) (z : Text) (r : Reading) (b : Break) → length z ≤ n → read_bare at z ≡ r → r.broken ≡ Some b → StopsThere at z r.tokens b
break_found n at [] r b fits is e = absurd (some_break b (sym e ∙ ap (λ (q : Reading). q.broken) (sym is ∙ reads_end at [] refl)))
break_found zero at (c ∷ z) r b fits is e = absurd (omega arith)
break_found (suc n) at (c ∷ z) r b fits is e = elim (first at (c ∷ z) (omega arith)) [
  | lexes start y l x rest p parts some h made reads ↦
      let next = read_bare (start + length x) rest in
      let same : prepend (span_of l start x) p next ≡ r = sym reads ∙ is in
      let shorter : length rest ≤ n = omega (arith, ap length parts, length-append x rest) in
      let s = break_found n (start + length x) rest next b shorter refl (ap (λ (q : Reading). q.broken) same ∙ e) in
      let us = put (span_of l start x) p next.tokens in
      subst (λ (q : Reading). StopsThere start y q.tokens b) same (record {
        before = x ++ s.before;
        place = s.place;
        parts = parts ∙ ap (λ (t : Text). x ++ t) s.parts ∙ sym (append_assoc x s.before s.place);
        passed = passes l x rest y s.place p parts h made s.passed;
        front = goes start l x s.before (x ++ s.before) next.tokens us refl (cut_lexeme l x s.before s.place (subst (λ (t : Text). IsLexeme l x t) s.parts h)) s.front
            (adds (span_of l start x) p (piece_of l x) next.tokens made);
        lies = s.lies ∙ ap (λ k. broken_span b.rule k s.place) (further start x s.before);
        broken = s.broken;
      })
  | breaks start y rule h reads ↦
      let moved : Break = record { rule = rule; span = broken_span rule start y } in
      let same : stops rule (broken_span rule start y) ≡ r = sym reads ∙ is in
      let there : moved ≡ b = some_same moved b (ap (λ (q : Reading). q.broken) same ∙ e) in
      subst (λ (q : Reading). StopsThere start y q.tokens b) same (subst (λ (d : Break). StopsThere start y [] d) there (record {
        before = [];
        place = y;
        parts = refl;
        passed = here y;
        front = ends start;
        lies = ap (λ k. broken_span rule k y) (here_already start);
        broken = h;
      }))
]

-- ---- whole texts

-- a byte order mark is passed over
abbrev pub Marking : ℕ → Text → Type 0
Marking at text = ((rest : Text) × (text ≡ mark ++ rest) × (without_mark at text ≡ (at + 3, rest))) ⊎ (((rest : Text) → text ≡ mark ++ rest → ⊥) × (without_mark at text ≡ (at, text)))

pub marking : (at : ℕ) (text : Text) → Marking at text
marking at [] = inr (λ rest is. absurd cc, refl)
marking at (a ∷ []) = inr (λ rest is. absurd cc, refl)
marking at (a ∷ b ∷ []) = inr (λ rest is. absurd cc, refl)
marking at (a ∷ b ∷ c ∷ z) = elim (cases_Bool (eqb a 239)) [
  | inl is-a ↦ elim (cases_Bool (eqb b 187)) [
    | inl is-b ↦ elim (cases_Bool (eqb c 191)) [
      | inl is-c ↦ inl (z, rw (eqb-true a 239 is-a, eqb-true b 187 is-b, eqb-true c 191 is-c) refl, rw (is-a, is-b, is-c) refl)
      | inr other ↦ inr (λ rest is. let same : c ≡ 191 = cc in absurd (let bad = rw same at other in cc), rw (is-a, is-b, other) refl)
    ]
    | inr other ↦ inr (λ rest is. let same : b ≡ 187 = cc in absurd (let bad = rw same at other in cc), rw (is-a, other) refl)
  ]
  | inr other ↦ inr (λ rest is. let same : a ≡ 239 = cc in absurd (let bad = rw same at other in cc), rw other refl)
]

pub reads_behind : (at : ℕ) (text : Text) (start : ℕ) (rest : Text) → without_mark at text ≡ (start, rest) → read at text ≡ read_bare start rest
unfolding read
reads_behind at text start rest e = ap (λ (p : ℕ × Text). read_bare p.0 p.1) e

pub text_found : (at : ℕ) (text : Text) (r : Reading) → read at text ≡ r → r.broken ≡ None → LexesText at text r.tokens
text_found at text r is e = elim (marking at text) [
  | inl (rest, parts, behind) ↦ inl (rest, parts, lexes_found (length rest) (at + 3) rest r (omega arith) (sym (reads_behind at text (at + 3) rest behind) ∙ is) e)
  | inr (none, behind) ↦ inr (lexes_found (length text) at text r (omega arith) (sym (reads_behind at text at text behind) ∙ is) e)
]

-- the text breaks a rule behind these tokens
pub record BreaksBehind (at : ℕ) (text : Text) (ts : List Tok) (b : Break) : Type 0 where
  pub broken : IsBrokenText at text b.rule b.span
  pub front : LexesText at broken.before ts

pub text_broken : (at : ℕ) (text : Text) (r : Reading) (b : Break) → read at text ≡ r → r.broken ≡ Some b → BreaksBehind at text r.tokens b
text_broken at text r b is e = elim (marking at text) [
  | inl (rest, parts, behind) ↦
      let s = break_found (length rest) (at + 3) rest r b (omega arith) (sym (reads_behind at text (at + 3) rest behind) ∙ is) e in
      record {
        broken = record {
          before = mark ++ s.before;
          place = s.place;
          parts = parts ∙ ap (λ (t : Text). mark ++ t) s.parts;
          reached = inl (rest, parts, s.passed);
          lies = s.lies ∙ ap (λ k. broken_span b.rule k s.place) (further at mark s.before);
          breaks = s.broken;
        };
        front = inl (s.before, refl, s.front);
      }
  | inr (none, behind) ↦
      let s = break_found (length text) at text r b (omega arith) (sym (reads_behind at text at text behind) ∙ is) e in
      record {
        broken = record { before = s.before; place = s.place; parts = s.parts; reached = inr (none, s.passed); lies = s.lies; breaks = s.broken };
        front = inr s.front;
      }
]

pub answers_found : {X : Type 0} (view : X → List Tok) (r : Result X SyntaxFault) (at : ℕ) (text : Text) → GivesReading view r (read at text) → IfOk r (λ x. LexesText at text (view x))
answers_found view (Ok x) at text e = text_found at text (whole (view x)) e refl
answers_found view (Err f) at text e = tt

pub answers_cause : {X : Type 0} (view : X → List Tok) (r : Result X SyntaxFault) (at : ℕ) (text : Text) → GivesReading view r (read at text) → IfErr r (IsLexFault at text)
answers_cause view (Ok x) at text e = tt
answers_cause view (Err faults.OutOfMemory) at text e = tt
answers_cause view (Err faults.TooLarge) at text e = absurd e
answers_cause view (Err (faults.Broken rule place)) at text e = (text_broken at text (read at text) (record { rule = rule; span = place }) refl e).broken
