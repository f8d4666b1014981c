-- Going over a text lexeme by lexeme.
use Rattle.std.proofs.Common.{◌≡◌, ℕ, zero, suc, ◌+◌, ◌-◌, ◌<◌, ◌≤◌, List, [], ◌∷◌, ◌++◌, length, take, drop, Option, None, Result, Ok, Err, refl, sym, ap, ◌∙◌, arith, append_assoc, append-nil}
use Rattle.wit_words.specs.declared.fault.Rule.{Rule}
use Rattle.wit_words.specs.declared.fault.SyntaxFault.{SyntaxFault}
use Rattle.wit_words.specs.declared.fault.SyntaxFault.TheVariants as faults
use Rattle.wit_tokens.specs.declared.lex.Lexeme.{Lexeme}
use Rattle.wit_words.specs.declared.source_map.Span.{Span}
use Rattle.wit_words.specs.Slice.{Slice}
use Rattle.wit_words.specs.Token.{What, Tok}
use Rattle.wit_tokens.specs.Lex.{Text, Cut, lexeme_at, Piece, nothing, doc, token, piece, piece_of, piece_at, span_of, behind, placed, and_then, Break, Reading, broken_span, at_end, stops, prepend, read_from, read_bare, GivesReading, Kept, with_last, with_docs, with_front}

pub read_from-drop : (n at : ℕ) (z : Text) → read_from n at z ≡ read_from 0 at (drop n z)
read_from-drop zero at z = refl
read_from-drop (suc n) at [] = refl
read_from-drop (suc n) at (b ∷ z) = read_from-drop n at z

pub drop-cons : (n b : ℕ) (z : Text) → 1 ≤ n → drop (n - 1) z ≡ drop n (b ∷ z)
drop-cons zero b z h = absurd (omega arith)
drop-cons (suc n) b z h = let e : suc n - 1 ≡ n = omega arith in ap (λ k. drop k z) e

abbrev Front : Type 0
Front = Piece × Span × Text

abbrev gave : Front → Result Front SyntaxFault
gave p = Ok p

gave_same : (p q : Front) → gave p ≡ gave q → p ≡ q
gave_same p q e = cc

-- the lexeme at the front, and what it is
abbrev Parts : ℕ → Text → Front → Lexeme × ℕ → Type 0
Parts at z f x = (lexeme_at z ≡ Ok x) × (piece_of x.0 (take x.1 z) ≡ Ok f.0) × (span_of x.0 at (take x.1 z) ≡ f.1) × (drop x.1 z ≡ f.2)

piece_ok : (at : ℕ) (z : Text) (r : Cut) (f : Front) → lexeme_at z ≡ r → placed at z (and_then r (piece_at at z)) ≡ Ok f → (x : Lexeme × ℕ) × Parts at z f x
piece_ok at z (Ok x) f is e = known (piece_of x.0 (take x.1 z)) refl e
  where
    known : (o : Result Piece Rule) → piece_of x.0 (take x.1 z) ≡ o → placed at z (and_then o (behind (span_of x.0 at (take x.1 z)) (drop x.1 z))) ≡ Ok f → (x : Lexeme × ℕ) × Parts at z f x
    known (Ok u) o-is e =
        let q = gave_same (u, span_of x.0 at (take x.1 z), drop x.1 z) f e in
        let same : u ≡ f.0 = ap (λ (p : Front). p.0) q in
        (x, (is, o-is ∙ ap (λ (v : Piece). Ok v) same, ap (λ (p : Front). p.1) q, ap (λ (p : Front). p.2) q))
    known (Err rule) o-is e = absurd cc
piece_ok at z (Err rule) f is e = absurd cc

-- what stands at the front is read first
pub reads_piece : (at : ℕ) (z : Text) (p : Piece) (span : Span) (after : Text) → length after < length z → placed at z (piece at z) ≡ Ok (p, span, after)
    → read_bare at z ≡ prepend span p (read_bare span.end after)
unfolding piece read_bare
reads_piece at [] p span after moves e = absurd (omega arith)
reads_piece at (b ∷ z) p span after moves e =
    let (x, (is, made, spans, left)) = piece_ok at (b ∷ z) (lexeme_at (b ∷ z)) (p, span, after) refl e in
    let some : 1 ≤ x.1 = at_least x.1 left in
    let next : at + length (take x.1 (b ∷ z)) ≡ span.end = ap (λ (s : Span). s.end) spans in
    rw (is, made, read_from-drop (x.1 - 1) (at + length (take x.1 (b ∷ z))) z, drop-cons x.1 b z some, left, spans, next) refl
  where
    at_least : (n : ℕ) → drop n (b ∷ z) ≡ after → 1 ≤ n
    at_least zero e = absurd (let l : length (b ∷ z) ≡ length after = ap length e in omega arith)
    at_least (suc n) e = omega arith

abbrev failed : SyntaxFault → Result Front SyntaxFault
failed e = Err e

err_is : (d e : SyntaxFault) → failed d ≡ failed e → e ≡ d
err_is d e h = cc

-- a fault of the front is one of the whole
abbrev pub Stops : ℕ → Text → SyntaxFault → Type 0
Stops at z e = (rule : Rule) × (e ≡ faults.Broken rule (broken_span rule at z)) × (read_bare at z ≡ stops rule (broken_span rule at z))

pub reads_break : (at : ℕ) (z : Text) (e : SyntaxFault) → 0 < length z → placed at z (piece at z) ≡ Err e → Stops at z e
unfolding piece read_bare
reads_break at [] f some e = absurd (omega arith)
reads_break at (b ∷ z) f some e = go (lexeme_at (b ∷ z)) refl e
  where
    known : (x : Lexeme × ℕ) (o : Result Piece Rule) → lexeme_at (b ∷ z) ≡ Ok x → piece_of x.0 (take x.1 (b ∷ z)) ≡ o
        → placed at (b ∷ z) (and_then o (behind (span_of x.0 at (take x.1 (b ∷ z))) (drop x.1 (b ∷ z)))) ≡ Err f → Stops at (b ∷ z) f
    known x (Ok p) lexeme-is is e = absurd cc
    known x (Err rule) lexeme-is is e = (rule, err_is (faults.Broken rule (broken_span rule at (b ∷ z))) f e, rw (lexeme-is, is) refl)

    go : (r : Cut) → lexeme_at (b ∷ z) ≡ r → placed at (b ∷ z) (and_then r (piece_at at (b ∷ z))) ≡ Err f → Stops at (b ∷ z) f
    go (Ok x) is e = known x (piece_of x.0 (take x.1 (b ∷ z))) is refl e
    go (Err rule) is e = (rule, err_is (faults.Broken rule (broken_span rule at (b ∷ z))) f e, rw is refl)

pub reads_end : (at : ℕ) (z : Text) → length z ≡ 0 → read_bare at z ≡ at_end
unfolding read_bare
reads_end at [] none = refl
reads_end at (b ∷ z) none = absurd (omega arith)

-- ---- the loop that keeps what was found

abbrev reading : Option Break → List Tok → Reading
reading broken ts = record { tokens = ts; broken = broken }

abbrev documented : What → Span → List Slice → Tok
documented w span docs = record { docs = docs; what = w; span = span }

with_docs-none : (ts : List Tok) → with_docs [] ts ≡ ts
with_docs-none [] = refl
with_docs-none (t ∷ ts) = refl

with_front-prepend : (front : Kept) (span : Span) (p : Piece) (ts : List Tok) (broken : Option Break)
    → with_front front (prepend span p (reading broken ts)) ≡ with_front (with_last front span p) (reading broken ts)
with_front-prepend front span nothing ts broken = refl
with_front-prepend front span (doc x) [] broken = refl
with_front-prepend front span (doc x) (t ∷ ts) broken =
    ap (λ (ds : List Slice). reading broken (front.tokens ++ documented t.what t.span ds ∷ ts)) (sym (append_assoc front.docs (record { text = x; span = span } ∷ []) t.docs))
with_front-prepend front span (token w) ts broken =
    ap (λ (ds : List Slice). reading broken (front.tokens ++ documented w span ds ∷ ts)) (append-nil front.docs)
    ∙ ap (reading broken) (sym (append_assoc front.tokens (documented w span front.docs ∷ []) ts))
    ∙ ap (λ (us : List Tok). reading broken ((front.tokens ++ documented w span front.docs ∷ []) ++ us)) (sym (with_docs-none ts))

-- a turn of the loop
pub lex_goes : (front : Kept) (at : ℕ) (z : Text) (p : Piece) (span : Span) (after : Text) (total : Reading) → length after < length z → placed at z (piece at z) ≡ Ok (p, span, after)
    → with_front front (read_bare at z) ≡ total → with_front (with_last front span p) (read_bare span.end after) ≡ total
lex_goes front at z p span after total moves e so_far =
    let rest = read_bare span.end after in
    sym (with_front-prepend front span p rest.tokens rest.broken) ∙ ap (with_front front) (sym (reads_piece at z p span after moves e)) ∙ so_far

pub lex_fails : {X : Type 0} (view : X → List Tok) (front : Kept) (at : ℕ) (z : Text) (e : SyntaxFault) (total : Reading) → 0 < length z → placed at z (piece at z) ≡ Err e
    → with_front front (read_bare at z) ≡ total → GivesReading view (Err e) total
lex_fails view front at z e total some h so_far =
    let (rule, is, stopped) = reads_break at z e some h in
    rw is (ap (λ (r : Reading). r.broken) (sym so_far ∙ ap (with_front front) stopped))

pub lex_ends : (front : Kept) (at : ℕ) (z : Text) (total : Reading) → length z ≡ 0 → with_front front (read_bare at z) ≡ total → total ≡ record { tokens = front.tokens; broken = None }
lex_ends front at z total none so_far = sym so_far ∙ ap (with_front front) (reads_end at z none) ∙ ap (reading None) (append-nil front.tokens)
