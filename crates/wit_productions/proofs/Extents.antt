-- Where tokens begin and end.
use Rattle.std.proofs.Common.{◌≡◌, ℕ, zero, suc, ◌-◌, ◌≤◌, List, [], ◌∷◌, length, refl, sym, ap, arith, slice_index_or}
use Rattle.wit_tokens.specs.Passed.wit_words-declared-source_map-Span.{Span}
use Rattle.wit_tokens.specs.Passed.wit_words-declared-token-DocumentedToken.{DocumentedToken}
use Rattle.wit_tokens.specs.Passed.wit_words-Token.{tok, toks}
use Rattle.wit_productions.specs.Production.{last_end, extent}

last_is : (n : ℕ) (t : DocumentedToken) (ts : List DocumentedToken) (d : DocumentedToken) → n ≡ length ts → d ≡ slice_index_or (t ∷ ts) n d → last_end (tok t) (toks ts) ≡ d.span.end
last_is zero t [] d e is = ap (λ (v : DocumentedToken). v.span.end) (sym is)
last_is (suc n) t [] d e is = absurd (omega arith)
last_is zero t (u ∷ us) d e is = absurd (omega arith)
last_is (suc n) t (u ∷ us) d e is = last_is n u us d (omega arith) is

pub extent_is : (ts : List DocumentedToken) (first last : DocumentedToken) → 2 ≤ length ts → first ≡ slice_index_or ts 0 first → last ≡ slice_index_or ts (length ts - 1) last
    → ◌≡◌ {A = Span} (record { start = first.span.start; end = last.span.end }) (extent (toks ts))
extent_is [] first last some f l = absurd (omega arith)
extent_is (t ∷ ts) first last some f l =
    let end = last_is (length (t ∷ ts) - 1) t ts last (omega arith) l in
    let start = ap (λ (v : DocumentedToken). v.span.start) f in
    rw (start, ← end) refl
